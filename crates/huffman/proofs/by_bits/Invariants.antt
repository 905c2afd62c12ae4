-- `huffman::by_bits` meets its contract. Assumes nothing.
use Rattle.huffman.specs.Nodes.{bit_by_bit}
use mathlib.Core.Path.{◌≡◌}
use Rattle.huffman.specs.Bits.{bits_in}
use Prim.Native.Nat.{◌-◌}
use Rattle.huffman.proofs.by_bits.Given as goal

abbrev pub invariant-loop-i : goal.invariant-loop-i
invariant-loop-i l = bit_by_bit l.c l.nodes l.i l.pos ≡ bit_by_bit l.c l.nodes l.start l.from

abbrev pub decreases-loop-i : goal.decreases-loop-i
decreases-loop-i l = bits_in - l.pos
