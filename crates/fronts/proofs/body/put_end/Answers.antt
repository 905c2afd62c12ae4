-- `fronts::body::put_end` meets its contract. Assumes nothing.
use mathlib.Core.Path.{refl}
use native.Mathlib.Omega.{arith}
use Rattle.fronts.proofs.BodyLaws.{end_methods, end_length, end_put}
use Rattle.fronts.proofs.body.put_end.Goals as goal

pub put_methods-p-requires : goal.put_methods-p-requires
put_methods-p-requires c = (end_methods _ _ _ c.requires.0, omega (arith, end_length _ _ _ c.requires.0, c.requires.1, c.put_u32.auto.out))

pub overflow_add-p : goal.overflow_add-p
overflow_add-p c = omega (arith, end_length _ _ _ c.requires.0, c.requires.1, c.put_methods-p.ensures.end, c.number_in-long.ensures)

pub overflow_add-result-2 : goal.overflow_add-result-2
overflow_add-result-2 c = omega (arith, end_length _ _ _ c.requires.0, c.requires.1, c.put_methods-p.ensures.end, c.number_in-long.ensures)

pub overflow_add-result-3 : goal.overflow_add-result-3
overflow_add-result-3 c = omega (arith, end_length _ _ _ c.requires.0, c.requires.1, c.put_methods-p.ensures.end, c.number_in-long.ensures)

pub returns : goal.returns
returns c = let all_of = end_put _ _ _ _ _ _ _ _ _ _ _ _ _ _ _ c.requires.0 refl c.put_u32.ensures c.put_methods-p.ensures.holds c.put_methods-p.ensures.end c.methods_before.ensures refl c.number_in-long.ensures c.part_of-label.ensures.holds c.put_string.ensures c.put_zeros.ensures c.requires.1 in record { end = all_of.0; holds = all_of.1 }
