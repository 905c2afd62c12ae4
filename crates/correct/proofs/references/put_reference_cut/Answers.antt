-- `correct::references::put_reference_cut` meets its contract. Assumes nothing.
use native.Mathlib.Omega.{arith}
use mathlib.Core.Path.{refl}
use Rattle.stores.proofs.JoinLaws.{ran, told}
use Rattle.stores.proofs.WriteLaws.{apart_is}
use Rattle.correct.proofs.ReferenceLaws.{times_small, reference_out, reference_in_lem}
use Rattle.correct.proofs.references.put_reference_cut.Goals as goal

pub overflow_mul-p : goal.overflow_mul-p
overflow_mul-p c = omega (arith, times_small c.args.w c.args.i c.requires)

pub overflow_add-p : goal.overflow_add-p
overflow_add-p c = omega (arith, times_small c.args.w c.args.i c.requires)

pub overflow_add-p-2 : goal.overflow_add-p-2
overflow_add-p-2 c = omega (arith, times_small c.args.w c.args.i c.requires)

pub returns-then-room-p : goal.returns-then-room-p
returns-then-room-p c = let all_of = told (reference_out _ _ _ _ _ _ _ refl (omega arith)) in record { left = all_of.0; holds = all_of.1 }

pub overflow_add-p-3 : goal.overflow_add-p-3
overflow_add-p-3 c = omega (arith, times_small c.args.w c.args.i c.requires)

pub returns-then-room-p-2 : goal.returns-then-room-p-2
returns-then-room-p-2 c = let all_of = told (reference_out _ _ _ _ _ _ _ refl (omega arith)) in record { left = all_of.0; holds = all_of.1 }

pub returns : goal.returns
returns c = let all_of = told (reference_in_lem _ _ _ _ _ _ refl c.reference_value.ensures (apart_is 8 _ _ refl c.put_u64.ensures) c.part_of.ensures.holds (ran (c.put_cut.ensures.left, c.put_cut.ensures.holds)) c.requires (omega arith)) in record { left = all_of.0; holds = all_of.1 }
