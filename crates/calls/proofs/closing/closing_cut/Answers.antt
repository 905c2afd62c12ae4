-- `calls::closing::closing_cut` meets its contract. Assumes nothing.
use native.Mathlib.Omega.{arith}
use Rattle.stores.proofs.JoinLaws.{ran, told}
use Rattle.calls.proofs.InnerLaws.{list_ready, page_small, first_small, closing_done}
use Rattle.calls.proofs.closing.closing_cut.Goals as goal

pub list_cut-a-requires : goal.list_cut-a-requires
list_cut-a-requires c = list_ready _ _ c.part_of-s.ensures.holds c.requires c.checksum_enabled-flag.ensures c.any_free-there.ensures

pub overflow_cast-n : goal.overflow_cast-n
overflow_cast-n c = omega (arith, page_small _ _ c.requires)

pub overflow_cast-p : goal.overflow_cast-p
overflow_cast-p c = omega (arith, first_small _ c.part_of.ensures.holds c.first_set-p.ensures.small)

pub returns : goal.returns
returns c = let all_of = told (closing_done _ _ c.part_of-s.ensures.holds c.requires c.checksum_enabled-flag.ensures c.header_end-end.ensures c.any_free-there.ensures c.part_of.ensures.holds c.first_set-p.ensures.is (ran (c.list_cut-a.ensures.left, c.list_cut-a.ensures.holds)) (ran (c.put_closing_cut.ensures.left, c.put_closing_cut.ensures.holds))) in record { left = all_of.0; holds = all_of.1 }
