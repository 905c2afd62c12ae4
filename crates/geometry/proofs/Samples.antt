-- The sample sums marked P. Assumes nothing.
use mathlib.Core.Path.{refl}
use Rattle.wire.specs.Tests.{sum_below}
use Rattle.header.specs.Element.{cell_size}
use Rattle.geometry.specs.Tiles.{tiles_along, tile_of, inside_of, tiles_in, tile_in}
use Rattle.geometry.specs.Sizes.{uncompressed, packing_of, cell_offset, stored_size, least_length, tile_length}
use Rattle.geometry.specs.Samples.{SamplesHold}

pub samples_hold : SamplesHold
unfolding sum_below cell_size tiles_along tile_of inside_of tiles_in tile_in uncompressed packing_of cell_offset stored_size least_length tile_length
samples_hold = refl
