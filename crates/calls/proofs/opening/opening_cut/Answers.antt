-- `calls::opening::opening_cut` meets its contract. Assumes nothing.
use Rattle.stores.proofs.JoinLaws.{ran, told}
use Rattle.calls.proofs.ReadLaws.{page_worked}
use Rattle.calls.proofs.OpenLaws.{layout_page, grid_page, opening_done}
use Rattle.calls.proofs.opening.opening_cut.Goals as goal

pub grid_of-g-requires : goal.grid_of-g-requires
grid_of-g-requires c = page_worked _ _ c.part_of-s.ensures.holds c.requires

pub body_cut-a-requires : goal.body_cut-a-requires
body_cut-a-requires c = (c.requires, (layout_page _ _ c.part_of-s.ensures.holds c.layout_of-p.ensures.is, grid_page _ _ c.part_of-s.ensures.holds c.grid_of-g.ensures))

pub returns : goal.returns
returns c = let all_of = told (opening_done _ _ c.part_of-s.ensures.holds c.layout_of-p.ensures.is c.difference.ensures (ran (c.body_cut-a.ensures.left, c.body_cut-a.ensures.holds)) (ran (c.seal_cut.ensures.left, c.seal_cut.ensures.holds))) in record { left = all_of.0; holds = all_of.1 }
