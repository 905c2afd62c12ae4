-- The sample contents. Assumes nothing.
use mathlib.Core.Path.{refl}
use Rattle.wire.specs.Tests.{passes}
use Rattle.wire.specs.Bytes.{byte_at, part, number, number_at}
use Rattle.m32.specs.M32.{first_step, go_on, ended, further_step, magnitude, read_code, read_codes, absolute, reached, continued, sevens, payload, wide, code_of, codes}
use Rattle.huffman.specs.Bits.{bit_at, bits_at, octet_at}
use Rattle.huffman.specs.Tree.{leaves, leaf_at, read_tree, tree_at}
use Rattle.huffman.specs.Symbols.{symbol_at, symbols_of, among, fresh, distinct}
use Rattle.predict.specs.Predict.{plus, minus, linear, triangle, predicted, row_from, row_of, cell_rows, tile_cells}
use Rattle.unpack.specs.Unpack.{head_right, tree_in, leaves_read, symbols_read, tree_right, symbols, numbers_in, numbers_of, count_right, numbers_right, values_of, is_short, all_short, in_range, bits_of_cell, bits_of, unpacked}
use Rattle.unpack.specs.Samples.{SamplesHold}

pub samples_hold : SamplesHold
unfolding passes byte_at part number number_at first_step go_on ended further_step magnitude read_code read_codes absolute reached continued sevens payload wide code_of codes bit_at bits_at octet_at leaves leaf_at read_tree tree_at symbol_at symbols_of among fresh distinct plus minus linear triangle predicted row_from row_of cell_rows tile_cells head_right tree_in leaves_read symbols_read tree_right symbols numbers_in numbers_of count_right numbers_right values_of is_short all_short in_range bits_of_cell bits_of unpacked
samples_hold = record { each = refl; no_side_lem = refl; long_side = refl }
