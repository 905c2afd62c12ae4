-- `sheets::weigh::weigh_all` meets its contract. Assumes nothing.
use mathlib.Core.Path.{refl}
use Rattle.blocks.proofs.WalkLaws.{walk_less}
use Rattle.store.proofs.PieceLaws.{walk_first, walk_next}
use Rattle.sheets.proofs.WeighLaws.{heavy_begins, heavy_walks, heavy_all}
use borrow.Author.Rules.{rules}
use native.Mathlib.Omega.{arith}
use Rattle.sheets.proofs.weigh.weigh_all.Goals as goal

pub loop-p-init : goal.loop-p-init
loop-p-init c = let w = walk_first _ _ c.requires.accepts.0 _ _ c.first_piece-p.ensures (omega arith) in (refl, (w.0, (c.of-x.ensures.known, heavy_begins _ _ _ _ _ _ w.1)))

pub weigh_tile-piece-requires-clause-known : goal.weigh_tile-piece-requires-clause-known
weigh_tile-piece-requires-clause-known c = c.loop-p.invariant.1.1.0

pub weigh_tile-piece-requires-clause-accepts : goal.weigh_tile-piece-requires-clause-accepts
weigh_tile-piece-requires-clause-accepts c = c.requires.accepts

pub weigh_tile-piece-requires-clause-sides : goal.weigh_tile-piece-requires-clause-sides
weigh_tile-piece-requires-clause-sides c = c.requires.sides

pub weigh_tile-piece-requires-clause-at : goal.weigh_tile-piece-requires-clause-at
weigh_tile-piece-requires-clause-at c = c.loop-p.invariant.1.0.piece c.loop-p-test.true

pub loop-p-smaller : goal.loop-p-smaller
loop-p-smaller c = let w = walk_next _ _ c.requires.accepts.0 _ _ _ c.loop-p.invariant.1.0 c.loop-p-test.true c.next_piece-p.ensures in let i = (c.loop-p.invariant.1.0.piece c.loop-p-test.true).sides in walk_less _ w.1 i.0 i.1.0 i.1.1.0

pub loop-p-preserved : goal.loop-p-preserved
loop-p-preserved c = let w = walk_next _ _ c.requires.accepts.0 _ _ _ c.loop-p.invariant.1.0 c.loop-p-test.true c.next_piece-p.ensures in (search rules, (w.0, (c.loop-p.invariant.1.1.0, heavy_walks _ _ _ _ _ _ _ _ _ _ _ _ _ w.1 c.loop-p.invariant.1.1.1 c.weigh_tile-piece.ensures c.max-w.ensures)))

pub returns : goal.returns
returns c = let q = c.of-x.ensures.same in rw (← q) (heavy_all _ _ _ _ _ _ _ c.loop-p.invariant.1.1.1 (omega (arith, c.loop-p.invariant.1.0.to_last)) (c.loop-p.invariant.1.0.ended (omega (arith, c.loop-p.invariant.1.0.to_last))))
