-- `sheets::put::put_all` meets its contract. Assumes nothing.
use mathlib.Core.Path.{refl}
use Rattle.blocks.proofs.WalkLaws.{walk_less}
use Rattle.store.proofs.PieceLaws.{walk_first, walk_next}
use Rattle.sheets.proofs.TableLaws.{table_begins, table_walks, table_all, room_still}
use borrow.Author.Rules.{rules}
use native.Mathlib.Omega.{arith}
use Rattle.sheets.proofs.put.put_all.Goals as goal

pub loop-p-init : goal.loop-p-init
loop-p-init c = let w = walk_first _ _ c.requires.accepts.0 _ _ c.first_piece-p.ensures (omega arith) in (refl, (w.0, (c.of-x.ensures.known, table_begins _ _ _ w.1)))

pub put_held-requires-clause-known : goal.put_held-requires-clause-known
put_held-requires-clause-known c = c.loop-p.invariant.1.1.0

pub put_held-requires-clause-accepts : goal.put_held-requires-clause-accepts
put_held-requires-clause-accepts c = c.requires.accepts

pub put_held-requires-clause-room : goal.put_held-requires-clause-room
put_held-requires-clause-room c = room_still c.loop-p.invariant.1.1.1 c.requires.room

pub put_held-requires-clause-at : goal.put_held-requires-clause-at
put_held-requires-clause-at c = c.loop-p.invariant.1.0.piece c.loop-p-test.true

pub loop-p-smaller : goal.loop-p-smaller
loop-p-smaller c = let w = walk_next _ _ c.requires.accepts.0 _ _ _ c.loop-p.invariant.1.0 c.loop-p-test.true c.next_piece-p.ensures in let i = (c.loop-p.invariant.1.0.piece c.loop-p-test.true).sides in walk_less _ w.1 i.0 i.1.0 i.1.1.0

pub loop-p-preserved : goal.loop-p-preserved
loop-p-preserved c = let w = walk_next _ _ c.requires.accepts.0 _ _ _ c.loop-p.invariant.1.0 c.loop-p-test.true c.next_piece-p.ensures in (search rules, (w.0, (c.loop-p.invariant.1.1.0, table_walks _ w.1 c.loop-p.invariant.1.1.1 c.put_held.ensures)))

pub returns : goal.returns
returns c = let q = c.of-x.ensures.same in rw (← q) (table_all _ c.loop-p.invariant.1.1.1 (omega (arith, c.loop-p.invariant.1.0.to_last)) (c.loop-p.invariant.1.0.ended (omega (arith, c.loop-p.invariant.1.0.to_last))) c.loop-p.invariant.1.0.sides)
