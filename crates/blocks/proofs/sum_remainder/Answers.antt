-- `blocks::sum_remainder` meets its contract. Assumes nothing.
use native.Mathlib.Omega.{arith}
use native.Mathlib.Nat.{mod-lt}
use Rattle.blocks.proofs.BlockLaws.{sum_under, sum_over}
use Rattle.blocks.proofs.sum_remainder.Goals as goal

pub overflow_sub-m : goal.overflow_sub-m
overflow_sub-m c = omega (arith, mod-lt c.args.b c.requires)

pub returns-then-x-m : goal.returns-then-x-m
returns-then-x-m c = let all_of = sum_under _ _ _ (omega arith) (omega arith) in record { is = all_of.0; less = all_of.1 }

pub overflow_sub-result : goal.overflow_sub-result
overflow_sub-result c = omega (arith, mod-lt c.args.b c.requires)

pub returns : goal.returns
returns c = let all_of = sum_over _ _ _ (omega arith) (omega arith) in record { is = all_of.0; less = all_of.1 }
