-- `rectangles::pieces::tell_row` meets its contract. Assumes nothing.
use native.Mathlib.Omega.{arith}
use mathlib.Core.Path.{refl}
use Rattle.rectangles.proofs.PieceLaws.{told_none, row_start, room_now, told_numbered, told_ends}
use Rattle.rectangles.proofs.pieces.tell_row.Goals as goal

pub loop-c-init : goal.loop-c-init
loop-c-init c = told_none _ _ _ _ _ (λ r d h. omega arith)

pub overflow_add-inside : goal.overflow_add-inside
overflow_add-inside c = record { fits = omega (arith, c.requires.numbered.small) }

pub overflow_cast-inside : goal.overflow_cast-inside
overflow_cast-inside c = record { fits = omega (arith, c.requires.numbered.small) }

pub overflow_mul-r : goal.overflow_mul-r
overflow_mul-r c = record { fits = omega (arith, row_start c.args.x.now.a c.args.r c.requires.inside.0 c.requires.fits) }

pub overflow_add-r : goal.overflow_add-r
overflow_add-r c = record { fits = omega (arith, row_start c.args.x.now.a c.args.r c.requires.inside.0 c.requires.fits, c.requires.fits.columns_small) }

pub put_cell-requires : goal.put_cell-requires
put_cell-requires c = room_now _ _ _ c.loop-c.invariant c.requires.fits c.requires.inside.0 (omega arith)

pub loop-c-preserved : goal.loop-c-preserved
loop-c-preserved c = told_numbered _ _ _ _ _ _ _ _ _ _ _ _ _ _ c.loop-c.invariant _ _ _ _ _ _ c.requires.numbered c.numbered_cell-cell.ensures c.put_cell.ensures.kinds c.put_cell.ensures.bits c.requires.fits c.requires.inside.0 (omega arith) (omega arith) c.requires.inside.1.1

pub returns : goal.returns
returns c = told_ends c.loop-c.invariant refl (omega arith)
