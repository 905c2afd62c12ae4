-- `fronts::body::put_methods` meets its contract. Assumes nothing.
use native.Mathlib.Omega.{arith}
use Rattle.fronts.proofs.BodyLaws.{named_none, named_fits, named_more, named_all}
use Rattle.fronts.proofs.body.put_methods.Goals as goal

pub loop-i-init : goal.loop-i-init
loop-i-init c = (omega arith, named_none _ _ _ _ _)

pub overflow_add-i : goal.overflow_add-i
overflow_add-i c = omega (arith, c.requires.0.there)

pub overflow_add-p-in-loop-i : goal.overflow_add-p-in-loop-i
overflow_add-p-in-loop-i c = omega (arith, (named_fits _ _ _ _ _ _ _ _ _ _ _ c.loop-i.invariant.1 c.requires.0 c.loop-i-test.true c.requires.1 c.number_in-k.ensures).0)

pub overflow_add-start : goal.overflow_add-start
overflow_add-start c = omega (arith, (named_fits _ _ _ _ _ _ _ _ _ _ _ c.loop-i.invariant.1 c.requires.0 c.loop-i-test.true c.requires.1 c.number_in-k.ensures).1)

pub loop-i-preserved : goal.loop-i-preserved
loop-i-preserved c = (omega arith, named_more _ _ _ _ _ _ _ _ _ _ _ c.loop-i.invariant.1 c.requires.0 c.loop-i-test.true c.requires.1 c.number_in-k.ensures _ _ c.part_of.ensures.holds c.put_string.ensures)

pub shape_of-out : goal.shape_of-out
shape_of-out c = c.loop-i.invariant.1.kept

pub returns : goal.returns
returns c = let all_of = named_all _ _ _ _ _ _ _ _ _ _ c.loop-i.invariant.1 c.loop-i.invariant.0 (omega arith) in record { end = all_of.0; holds = all_of.1 }
