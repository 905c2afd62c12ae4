-- `cells::many::cell_held` meets its contract. Assumes nothing.
use Rattle.std.specs.Prelude.{Err}
use native.Mathlib.Omega.{arith}
use mathlib.Core.Path.{sym, ◌∙◌}
use Rattle.answer.specs.declared.Cell.TheVariants as cell
use Rattle.cells.specs.Many.{held_cell}
use Rattle.cells.proofs.ReadLaws.{guarded_outside, guarded_unlawful, guarded_answer}
use Rattle.cells.proofs.many.cell_held.Goals as goal

pub overflow_cast-row : goal.overflow_cast-row
unfolding held_cell
overflow_cast-row c = record { fits = omega (arith, (c.in_grid.ensures.small c.if-in_grid.true).0) }

pub overflow_cast-column : goal.overflow_cast-column
unfolding held_cell
overflow_cast-column c = record { fits = omega (arith, (c.in_grid.ensures.small c.if-in_grid.true).1.0) }

pub overflow_cast-e : goal.overflow_cast-e
unfolding held_cell
overflow_cast-e c = record { fits = omega (arith, (c.in_grid.ensures.small c.if-in_grid.true).1.1) }

pub told_by-requires : goal.told_by-requires
unfolding held_cell
told_by-requires c = sym c.sides_lawful.ensures ∙ c.if-sides_lawful.true

pub returns-then-sides_lawful : goal.returns-then-sides_lawful
unfolding held_cell
returns-then-sides_lawful c = guarded_answer Err _ _ _ c.in_grid.ensures.is _ _ c.sides_lawful.ensures c.if-in_grid.true _ c.if-sides_lawful.true c.told_by.ensures

pub returns-then-in_grid : goal.returns-then-in_grid
unfolding held_cell
returns-then-in_grid c = guarded_unlawful Err _ _ _ c.in_grid.ensures.is _ _ c.sides_lawful.ensures c.if-in_grid.true c.if-sides_lawful.false

pub returns : goal.returns
unfolding held_cell
returns c = guarded_outside Err _ _ _ c.in_grid.ensures.is _ c.if-in_grid.false
