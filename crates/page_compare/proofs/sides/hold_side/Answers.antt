-- `page_compare::sides::hold_side` meets its contract. Assumes nothing.
use native.Mathlib.Omega.{arith}
use mathlib.Core.Path.{refl}
use Rattle.page_compare.proofs.SideLaws.{product_small, part_there, part_empty}
use Rattle.page_compare.proofs.sides.hold_side.Goals as goal

pub overflow_mul-first : goal.overflow_mul-first
overflow_mul-first c = record { fits = omega (arith, product_small c.args.e c.args.cells c.requires.there.1.0 c.requires.there.1.1) }

pub overflow_add-end : goal.overflow_add-end
overflow_add-end c = record { fits = omega (arith, product_small c.args.e c.args.cells c.requires.there.1.0 c.requires.there.1.1, c.requires.there.1.1) }

pub side_in-requires-clause-accepts : goal.side_in-requires-clause-accepts
side_in-requires-clause-accepts c = c.requires.accepts

pub side_in-requires-clause-at : goal.side_in-requires-clause-at
side_in-requires-clause-at c = c.requires.at

pub side_in-requires-clause-there : goal.side_in-requires-clause-there
side_in-requires-clause-there c = c.requires.there.0

pub side_in-requires-clause-part : goal.side_in-requires-clause-part
side_in-requires-clause-part c = (omega arith, omega (arith, c.requires.part))

pub returns-then-end-high-clause-ready : goal.returns-then-end-high-clause-ready
returns-then-end-high-clause-ready c = c.side_in.ensures.ready

pub returns-then-end-high-clause-part : goal.returns-then-end-high-clause-part
returns-then-end-high-clause-part c = part_there _ _ _ _ _ _ _ _ refl refl c.if-end-high.true c.requires.part.0 c.side_in.ensures.part.0 c.side_in.ensures.part.1

pub returns-then-end-high-clause-changed : goal.returns-then-end-high-clause-changed
returns-then-end-high-clause-changed c = rw (c.side_in.ensures.part.0, c.side_in.ensures.part.1) c.side_in.ensures.changed

pub side_in-requires-2-clause-accepts : goal.side_in-requires-2-clause-accepts
side_in-requires-2-clause-accepts c = c.requires.accepts

pub side_in-requires-2-clause-at : goal.side_in-requires-2-clause-at
side_in-requires-2-clause-at c = c.requires.at

pub side_in-requires-2-clause-there : goal.side_in-requires-2-clause-there
side_in-requires-2-clause-there c = c.requires.there.0

pub side_in-requires-2-clause-part : goal.side_in-requires-2-clause-part
side_in-requires-2-clause-part c = (omega arith, omega (arith, c.requires.part))

pub returns-clause-ready : goal.returns-clause-ready
returns-clause-ready c = c.side_in-2.ensures.ready

pub returns-clause-part : goal.returns-clause-part
returns-clause-part c = part_empty _ _ _ _ _ _ c.requires.part.0 c.side_in-2.ensures.part.0 c.side_in-2.ensures.part.1

pub returns-clause-changed : goal.returns-clause-changed
returns-clause-changed c = rw (c.side_in-2.ensures.part.0, c.side_in-2.ensures.part.1) c.side_in-2.ensures.changed
