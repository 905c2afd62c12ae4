-- `store::pieces::first_piece` meets its contract. Assumes nothing.
use Rattle.store.proofs.PieceLaws.{none_first, some_first}
use Rattle.store.proofs.pieces.first_piece.Goals as goal

pub returns-then-a-eq0 : goal.returns-then-a-eq0
returns-then-a-eq0 c = none_first _ _ _ _ c.piece_in.ensures c.if-a-eq0.true

pub returns : goal.returns
returns c = some_first _ _ _ _ _ c.band_end.ensures c.piece_in-2.ensures c.if-a-eq0.false
