-- `rectangles::pieces::look_up_row` meets its contract. Assumes nothing.
use native.Mathlib.Omega.{arith}
use mathlib.Core.Path.{refl}
use Rattle.rectangles.proofs.PieceLaws.{told_none, row_start, room_now, told_more, told_ends}
use Rattle.rectangles.proofs.pieces.look_up_row.Goals as goal

pub overflow_mul-first : goal.overflow_mul-first
overflow_mul-first c = record { fits = omega (arith, row_start c.args.x.now.a c.args.r (omega (arith, c.requires.ready.at.sides, c.requires.row)) c.requires.fits) }

pub overflow_add-row : goal.overflow_add-row
overflow_add-row c = record { fits = omega (arith, c.requires.fits.rows_small, c.requires.ready.at.sides, c.requires.row) }

pub loop-c-init : goal.loop-c-init
loop-c-init c = told_none _ _ _ _ _ (λ r d h. omega arith)

pub overflow_add-a : goal.overflow_add-a
overflow_add-a c = record { fits = omega (arith, c.requires.fits.columns_small, c.requires.ready.at.sides) }

pub overflow_add-first : goal.overflow_add-first
overflow_add-first c = record { fits = omega (arith, row_start c.args.x.now.a c.args.r (omega (arith, c.requires.ready.at.sides, c.requires.row)) c.requires.fits, c.requires.fits.columns_small, c.requires.ready.at.sides) }

pub put_cell-requires : goal.put_cell-requires
put_cell-requires c = room_now _ _ _ c.loop-c.invariant c.requires.fits (omega (arith, c.requires.ready.at.sides, c.requires.row)) (omega (arith, c.requires.ready.at.sides))

pub loop-c-preserved : goal.loop-c-preserved
loop-c-preserved c = told_more _ _ _ _ _ _ _ _ _ _ _ _ _ _ c.loop-c.invariant _ _ c.requires.ready.answered (omega (arith, c.requires.ready.at.sides, c.requires.row)) c.held_cell-cell.ensures c.put_cell.ensures.kinds c.put_cell.ensures.bits c.requires.fits (omega (arith, c.requires.ready.at.sides, c.requires.row)) (omega arith) (omega (arith, c.requires.ready.at.sides))

pub returns : goal.returns
returns c = told_ends c.loop-c.invariant refl (omega arith)
