-- `store::pieces::band_end` meets its contract. Assumes nothing.
use mathlib.Core.Path.{◌∙◌}
use Rattle.store.specs.Pieces.{band_end}
use Rattle.store.proofs.pieces.band_end.Goals as goal

pub returns : goal.returns
unfolding band_end
returns c = c.block_end.ensures ∙ rw c.shape_of-shape.ensures.tile_rows
