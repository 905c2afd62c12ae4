-- `store::pieces::piece_in` meets its contract. Assumes nothing.
use Rattle.store.specs.Pieces.{piece_in}
use Rattle.store.proofs.pieces.piece_in.Goals as goal

pub returns : goal.returns
unfolding piece_in
returns c = rw (c.tile_at.ensures, c.number_at.ensures, c.block_end.ensures, c.shape_of-shape.ensures.tile_columns)
