-- The sample trees. Assumes nothing.
use mathlib.Core.Path.{refl}
use Rattle.wire.specs.Bytes.{byte_at}
use Rattle.huffman.specs.Bits.{bit_at, bits_at, octet_at}
use Rattle.huffman.specs.Tree.{leaves, leaf_at, read_tree, tree_at}
use Rattle.huffman.specs.Symbols.{symbol_at}
use Rattle.huffman.specs.Samples.{SamplesHold}

pub samples_hold : SamplesHold
unfolding byte_at bit_at bits_at octet_at leaves leaf_at read_tree tree_at symbol_at
samples_hold =
    record {
      tree_two = refl;
      tree_one = refl;
      tree_cut = refl;
      tree_few = refl;
      first_symbol = refl;
      fourth_symbol = refl;
      no_bits = refl;
      at_end = refl;
    }
