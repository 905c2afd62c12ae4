-- `store::elements::first_named` meets its contract. The loop's invariant: no element before e has the name. Assumes nothing.
use native.Mathlib.Omega.{arith}
use Rattle.store.proofs.LookupLaws.{unnamed_begin, unnamed_on, named_here, named_nowhere}
use Rattle.store.proofs.elements.first_named.Goals as goal

pub loop-e-init : goal.loop-e-init
loop-e-init c = (c.element_count-n.ensures, unnamed_begin _ _ _)

pub returns-then-has_name : goal.returns-then-has_name
returns-then-has_name c = named_here _ _ _ _ c.loop-e.invariant.1 _ c.has_name.ensures (omega arith) c.loop-e.invariant.0 c.if-has_name.true

pub loop-e-preserved : goal.loop-e-preserved
loop-e-preserved c = (c.loop-e.invariant.0, unnamed_on _ _ _ _ c.loop-e.invariant.1 _ c.has_name.ensures (omega arith) c.if-has_name.false)

pub returns : goal.returns
returns c = named_nowhere _ _ _ _ c.loop-e.invariant.1 (omega arith) c.loop-e.invariant.0
