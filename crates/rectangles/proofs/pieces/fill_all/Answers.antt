-- `rectangles::pieces::fill_all` meets its contract. Assumes nothing.
use borrow.Author.Rules.{rules}
use native.Mathlib.Omega.{arith}
use mathlib.Core.Path.{refl}
use Rattle.blocks.proofs.WalkLaws.{walk_less}
use Rattle.store.proofs.PieceLaws.{walk_first, walk_next}
use Rattle.rectangles.proofs.PieceLaws.{told_begins, told_walks, told_all, room_still}
use Rattle.rectangles.proofs.pieces.fill_all.Goals as goal

pub loop-p-init : goal.loop-p-init
loop-p-init c = let w = walk_first _ _ c.requires.accepts _ _ c.first_piece-p.ensures (omega arith) in (refl, (w.0, told_begins _ _ _ w.1))

pub fill_tile-requires-clause-accepts : goal.fill_tile-requires-clause-accepts
fill_tile-requires-clause-accepts c = c.requires.accepts

pub fill_tile-requires-clause-fits : goal.fill_tile-requires-clause-fits
fill_tile-requires-clause-fits c = room_still c.loop-p.invariant.1.1 c.requires.fits

pub fill_tile-requires-clause-at : goal.fill_tile-requires-clause-at
fill_tile-requires-clause-at c = c.loop-p.invariant.1.0.piece c.loop-p-test.true

pub loop-p-smaller : goal.loop-p-smaller
loop-p-smaller c = let w = walk_next _ _ c.requires.accepts _ _ _ c.loop-p.invariant.1.0 c.loop-p-test.true c.next_piece-p.ensures in let i = (c.loop-p.invariant.1.0.piece c.loop-p-test.true).sides in walk_less _ w.1 i.0 i.1.0 i.1.1.0

pub loop-p-preserved : goal.loop-p-preserved
loop-p-preserved c = let w = walk_next _ _ c.requires.accepts _ _ _ c.loop-p.invariant.1.0 c.loop-p-test.true c.next_piece-p.ensures in (search rules, (w.0, told_walks w.1 c.loop-p.invariant.1.1 c.fill_tile.ensures))

pub returns : goal.returns
returns c = told_all c.loop-p.invariant.1.0 (omega (arith, c.loop-p.invariant.1.0.to_last)) c.loop-p.invariant.1.1
