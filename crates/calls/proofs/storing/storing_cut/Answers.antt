-- `calls::storing::storing_cut` meets its contract. Assumes nothing.
use native.Mathlib.Omega.{arith}
use Rattle.stores.proofs.JoinLaws.{ran, told}
use Rattle.calls.proofs.StoreLaws.{sizes_told, over_place, new_place, storing_over, storing_new}
use Rattle.calls.proofs.storing.storing_cut.Goals as goal

pub over_cut-requires : goal.over_cut-requires
over_cut-requires c = (sizes_told _ _ _ c.part_of.ensures.holds c.element_sizes.ensures c.requires.0 (omega arith), over_place _ _ _ c.requires.0 c.requires.1.0 _ c.in-Some.is)

pub new_cut-requires : goal.new_cut-requires
new_cut-requires c = (sizes_told _ _ _ c.part_of.ensures.holds c.element_sizes.ensures c.requires.0 (omega arith), (c.requires.0, new_place _ _ _ c.requires.0 c.requires.1.0 c.in-None.is c.requires.1.1))

pub returns-in-Some : goal.returns-in-Some
returns-in-Some c = let all_of = told (storing_over _ _ _ _ c.requires.1.0 c.in-Some.is (ran (c.over_cut.ensures.left, c.over_cut.ensures.holds))) in record { left = all_of.0; holds = all_of.1 }

pub returns-in-None : goal.returns-in-None
returns-in-None c = let all_of = told (storing_new _ _ _ c.requires.1.0 c.in-None.is (ran (c.new_cut.ensures.left, c.new_cut.ensures.holds))) in record { left = all_of.0; holds = all_of.1 }
