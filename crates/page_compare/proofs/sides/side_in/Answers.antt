-- `page_compare::sides::side_in` meets its contract. Assumes nothing.
use native.Mathlib.Omega.{arith}
use mathlib.Core.Path.{refl}
use Rattle.page_compare.proofs.SideLaws.{side_ready}
use Rattle.page_compare.proofs.sides.side_in.Goals as goal

pub returns-clause-ready : goal.returns-clause-ready
returns-clause-ready c = side_ready _ _ _ _ _ _ _ c.requires.part.0 (omega (arith, c.hold_in-held.ensures.changed.long, c.requires.part.1)) c.kind_of-kind.ensures c.fill_pattern-fill.ensures c.hold_in-held.ensures.holds c.requires.accepts c.requires.at c.requires.there

pub returns-clause-part : goal.returns-clause-part
returns-clause-part c = (refl, refl)

pub returns-clause-changed : goal.returns-clause-changed
returns-clause-changed c = c.hold_in-held.ensures.changed
