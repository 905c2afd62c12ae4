-- `correct::tiles::put_over_cut` meets its contract. Assumes nothing.
use Rattle.stores.proofs.JoinLaws.{ran, told}
use Rattle.correct.proofs.CellLaws.{over_ran}
use Rattle.correct.proofs.tiles.put_over_cut.Goals as goal

pub returns : goal.returns
returns c = let all_of = told (over_ran _ _ _ _ _ _ (ran (c.put_cells_cut-a.ensures.left, c.put_cells_cut-a.ensures.holds)) (ran (c.seal_cut.ensures.left, c.seal_cut.ensures.holds))) in record { left = all_of.0; holds = all_of.1 }
