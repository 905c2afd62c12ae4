-- `huffman::bits::octet_by_bits` meets its contract. Assumes nothing.
use Rattle.huffman.specs.Bits.{bits_at}
use Prim.Native.Nat.{◌+◌, ◌-◌}
use mathlib.Core.Path.{◌≡◌}
use Rattle.huffman.proofs.bits.octet_by_bits.Given as goal

abbrev pub invariant-loop-k : goal.invariant-loop-k
invariant-loop-k l = l.v ≡ bits_at l.c (l.i + l.k) (8 - l.k)
