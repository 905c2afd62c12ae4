-- `store::pieces::next_piece` meets its contract. Assumes nothing.
use Rattle.store.proofs.PieceLaws.{beside_next, under_next}
use Rattle.store.proofs.pieces.next_piece.Goals as goal

pub returns-then-p-a : goal.returns-then-p-a
returns-then-p-a c = beside_next _ _ _ _ c.piece_in.ensures c.if-p-a.true

pub returns : goal.returns
returns c = under_next _ _ _ _ c.first_piece.ensures c.if-p-a.false
