-- `correct::tiles::stored_length` meets its contract. Assumes nothing.
use Rattle.correct.proofs.TileLaws.{stored_length_is}
use Rattle.correct.proofs.tiles.stored_length.Goals as goal

pub returns : goal.returns
returns c = stored_length_is _
