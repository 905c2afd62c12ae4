-- `store::pieces::tile_at` meets its contract. Assumes nothing.
use native.Mathlib.Omega.{arith}
use Rattle.store.proofs.ManyLaws.{holds_tile, no_tile}
use Rattle.store.proofs.pieces.tile_at.Goals as goal

pub overflow_add-a : goal.overflow_add-a
overflow_add-a c = record { fits = omega (arith, c.has_cell.ensures.small c.if-has_cell.true) }

pub overflow_cast-a : goal.overflow_cast-a
overflow_cast-a c = record { fits = omega (arith, c.has_cell.ensures.small c.if-has_cell.true) }

pub overflow_add-a-then-has_cell : goal.overflow_add-a-then-has_cell
overflow_add-a-then-has_cell c = record { fits = omega (arith, c.has_cell.ensures.small c.if-has_cell.true) }

pub overflow_cast-a-then-has_cell : goal.overflow_cast-a-then-has_cell
overflow_cast-a-then-has_cell c = record { fits = omega (arith, c.has_cell.ensures.small c.if-has_cell.true) }

pub returns-then-has_cell : goal.returns-then-has_cell
returns-then-has_cell c = holds_tile _ _ _ _ c.has_cell.ensures.is _ c.if-has_cell.true c.cell_tile.ensures

pub returns : goal.returns
returns c = no_tile _ _ _ _ c.has_cell.ensures.is c.if-has_cell.false
