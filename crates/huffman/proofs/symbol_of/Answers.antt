-- `huffman::symbol_of` meets its contract. Assumes nothing.
use mathlib.Core.Path.{refl}
use Rattle.huffman.specs.Jumps.{symbol_in}
use Rattle.huffman.proofs.symbol_of.Goals as goal

pub returns : goal.returns
unfolding symbol_in
returns c = refl
