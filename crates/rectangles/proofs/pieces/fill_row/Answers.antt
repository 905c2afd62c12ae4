-- `rectangles::pieces::fill_row` meets its contract. Assumes nothing.
use native.Mathlib.Omega.{arith}
use Rattle.store.proofs.PieceLaws.{start_small, numbered_row}
use Rattle.rectangles.proofs.pieces.fill_row.Goals as goal

pub overflow_mul-start : goal.overflow_mul-start
overflow_mul-start c = record { fits = omega (arith, start_small _ _ _ c.args.r _ c.requires.ready.accepts c.requires.ready.at c.requires.ready.across c.requires.row.0 c.requires.row.1) }

pub overflow_add-start : goal.overflow_add-start
overflow_add-start c = record { fits = omega (arith, start_small _ _ _ c.args.r _ c.requires.ready.accepts c.requires.ready.at c.requires.ready.across c.requires.row.0 c.requires.row.1) }

pub tell_row-requires-clause-inside : goal.tell_row-requires-clause-inside
tell_row-requires-clause-inside c = (omega (arith, c.requires.ready.at.sides, c.requires.row), (omega (arith, c.requires.ready.at.sides), c.requires.ready.at.sides.1.1.1))

pub tell_row-requires-clause-numbered : goal.tell_row-requires-clause-numbered
tell_row-requires-clause-numbered c = numbered_row _ _ _ _ _ _ _ _ _ _ _ c.requires.ready.answered c.held_kind.ensures c.if-held_kind-eq0.false (rw c.requires.ready.across) c.requires.ready.kind c.requires.ready.fill c.requires.row.0 c.requires.row.1
