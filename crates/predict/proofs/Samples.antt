-- The tables of G 5.1.4. Assumes nothing.
use Rattle.std.proofs.Common.{refl}
use Rattle.predict.specs.Predict.{plus, minus, linear, triangle, predicted, row_from, row_of, left_from, left_of, cell_rows, left_rows, tile_cells}
use Rattle.predict.specs.Samples.{SamplesHold}

pub samples_hold : SamplesHold
unfolding plus minus linear triangle predicted row_from row_of left_from left_of cell_rows left_rows tile_cells
samples_hold = record { differencing = refl; linear = refl; triangle = refl; by_differences = refl; by_lines = refl; by_triangles = refl }
