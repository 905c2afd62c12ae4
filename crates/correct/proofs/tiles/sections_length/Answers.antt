-- `correct::tiles::sections_length` meets its contract. Assumes nothing.
use native.Mathlib.Omega.{arith}
use Rattle.correct.proofs.TileLaws.{measured_none, next_small, measured_more, measured_all}
use Rattle.correct.proofs.tiles.sections_length.Goals as goal

pub loop-e-init : goal.loop-e-init
loop-e-init c = measured_none _ _

pub stored_length-sum-requires : goal.stored_length-sum-requires
stored_length-sum-requires c = omega (arith, next_small c.loop-e.invariant _ c.number_in-u.ensures c.part_of-n.ensures.holds (omega arith))

pub overflow_add-sum : goal.overflow_add-sum
overflow_add-sum c = let w = measured_more c.loop-e.invariant _ c.number_in-u.ensures c.part_of-n.ensures.holds (omega arith) _ c.stored_length-sum.ensures in omega (arith, w.long_small, c.requires)

pub overflow_add-from : goal.overflow_add-from
overflow_add-from c = let w = measured_more c.loop-e.invariant _ c.number_in-u.ensures c.part_of-n.ensures.holds (omega arith) _ c.stored_length-sum.ensures in omega (arith, w.start_small, c.requires)

pub loop-e-preserved : goal.loop-e-preserved
loop-e-preserved c = measured_more c.loop-e.invariant _ c.number_in-u.ensures c.part_of-n.ensures.holds (omega arith) _ c.stored_length-sum.ensures

pub returns : goal.returns
returns c = let all_of = measured_all c.loop-e.invariant _ (omega arith) (omega arith) c.requires in record { is = all_of.0; small = all_of.1 }
