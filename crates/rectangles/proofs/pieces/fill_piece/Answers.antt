-- `rectangles::pieces::fill_piece` meets its contract. Assumes nothing.
use native.Mathlib.Omega.{arith}
use mathlib.Core.Path.{refl}
use Rattle.rectangles.proofs.PieceLaws.{told_none, told_ends, told_under, room_still}
use Rattle.rectangles.proofs.pieces.fill_piece.Goals as goal

pub loop-r-init : goal.loop-r-init
loop-r-init c = told_none _ _ _ _ _ (λ r d h. omega arith)

pub fill_row-requires-clause-fits : goal.fill_row-requires-clause-fits
fill_row-requires-clause-fits c = room_still c.loop-r.invariant c.requires.fits

pub loop-r-preserved : goal.loop-r-preserved
loop-r-preserved c = told_under c.loop-r.invariant c.fill_row.ensures c.requires.ready.at.sides.1.1.1 (omega arith) (omega arith)

pub returns : goal.returns
returns c = told_ends c.loop-r.invariant (omega (arith, c.requires.ready.at.sides)) refl
