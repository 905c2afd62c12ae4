-- `page_compare::sides::hold_page` meets its contract. Assumes nothing.
use native.Mathlib.Omega.{arith}
use mathlib.Core.Path.{refl}
use Rattle.page_compare.proofs.SideLaws.{page_none, page_step, page_all}
use Rattle.page_compare.proofs.sides.hold_page.Goals as goal

pub loop-e-init : goal.loop-e-init
loop-e-init c = (omega arith, (refl, page_none _ _ _ _ _ _ _ _ _ c.requires.part.0))

pub hold_side-x-requires-clause-accepts : goal.hold_side-x-requires-clause-accepts
hold_side-x-requires-clause-accepts c = c.requires.accepts

pub hold_side-x-requires-clause-at : goal.hold_side-x-requires-clause-at
hold_side-x-requires-clause-at c = c.requires.at

pub hold_side-x-requires-clause-there : goal.hold_side-x-requires-clause-there
hold_side-x-requires-clause-there c = (omega (arith, c.requires.elements), (omega (arith, c.requires.elements), c.requires.elements.1.1))

pub hold_side-x-requires-clause-part : goal.hold_side-x-requires-clause-part
hold_side-x-requires-clause-part c = (c.requires.part.0, omega (arith, c.requires.part.1, c.loop-e.invariant.1.1.changed.long))

pub bounds-xs-i : goal.bounds-xs-i
bounds-xs-i c = omega (arith, c.requires.elements)

pub loop-e-preserved : goal.loop-e-preserved
loop-e-preserved c = (omega arith, page_step _ _ _ _ _ _ _ _ _ _ _ _ _ _ c.loop-e.invariant.1.0 c.loop-e.invariant.1.1 (omega (arith, c.requires.elements)) c.hold_side-x.ensures.ready c.hold_side-x.ensures.part c.hold_side-x.ensures.changed)

pub shape_of-memory : goal.shape_of-memory
shape_of-memory c = c.loop-e.invariant.1.1.changed.long

pub returns : goal.returns
returns c = let all_of = page_all _ _ _ _ _ _ _ _ _ _ _ _ c.loop-e.invariant.1.1 (omega arith) in record { ready = all_of.0; changed = all_of.1 }
