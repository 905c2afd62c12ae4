-- `cells::lookups::look_up` meets its contract. Assumes nothing.
use Rattle.std.specs.Prelude.{Err}
use native.Mathlib.Omega.{arith}
use mathlib.Core.Path.{sym, ◌∙◌}
use Rattle.answer.specs.declared.Cell.TheVariants as cell
use Rattle.cells.specs.inner.Lookups.{looked_up}
use Rattle.tile_routes.specs.Ways.{found_by}
use Rattle.cells.proofs.CellLaws.{grid_means, sides_mean, tile_small_lem}
use Rattle.cells.proofs.ReadLaws.{guarded_outside, guarded_unlawful, looked_found}
use Rattle.cells.proofs.lookups.look_up.Goals as goal

pub overflow_cast-row : goal.overflow_cast-row
unfolding looked_up
overflow_cast-row c = record { fits = omega (arith, (c.in_grid.ensures.small c.if-in_grid.true).0) }

pub overflow_cast-column : goal.overflow_cast-column
unfolding looked_up
overflow_cast-column c = record { fits = omega (arith, (c.in_grid.ensures.small c.if-in_grid.true).1.0) }

pub overflow_cast-tile : goal.overflow_cast-tile
unfolding looked_up
overflow_cast-tile c = let g = grid_means _ _ _ _ (sym c.in_grid.ensures.is ∙ c.if-in_grid.true) in record { fits = omega (arith, c.cell_tile-tile.ensures, tile_small_lem _ _ _ (sides_mean _ (sym c.sides_lawful.ensures ∙ c.if-sides_lawful.true)) g.0 g.1.0) }

pub overflow_cast-row-then-sides_lawful : goal.overflow_cast-row-then-sides_lawful
unfolding looked_up
overflow_cast-row-then-sides_lawful c = record { fits = omega (arith, (c.in_grid.ensures.small c.if-in_grid.true).0) }

pub overflow_cast-column-then-sides_lawful : goal.overflow_cast-column-then-sides_lawful
unfolding looked_up
overflow_cast-column-then-sides_lawful c = record { fits = omega (arith, (c.in_grid.ensures.small c.if-in_grid.true).1.0) }

pub overflow_cast-e : goal.overflow_cast-e
unfolding looked_up
overflow_cast-e c = record { fits = omega (arith, (c.in_grid.ensures.small c.if-in_grid.true).1.1) }

pub cell_reached-requires : goal.cell_reached-requires
unfolding looked_up
cell_reached-requires c = sym c.sides_lawful.ensures ∙ c.if-sides_lawful.true

pub returns-then-sides_lawful : goal.returns-then-sides_lawful
unfolding looked_up
returns-then-sides_lawful c = looked_found _ _ _ c.sides_lawful.ensures c.if-in_grid.true c.if-sides_lawful.true (found_by _ _) _ _ _ _ c.in_grid.ensures.is _ _ _ c.cell_tile-tile.ensures c.found_by-found.ensures c.cell_reached.ensures

pub returns-then-in_grid : goal.returns-then-in_grid
unfolding looked_up
returns-then-in_grid c = guarded_unlawful Err _ _ _ c.in_grid.ensures.is _ _ c.sides_lawful.ensures c.if-in_grid.true c.if-sides_lawful.false

pub returns : goal.returns
unfolding looked_up
returns c = guarded_outside Err _ _ _ c.in_grid.ensures.is _ c.if-in_grid.false
