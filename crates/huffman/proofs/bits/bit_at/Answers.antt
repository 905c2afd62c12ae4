-- `huffman::bits::bit_at` meets its contract. Assumes nothing.
use Rattle.huffman.proofs.BitLaws.{bit_none, bit_some}
use Prim.Native.Nat.{◌/◌}
use native.Mathlib.Omega.{arith}
use Rattle.huffman.proofs.bits.bit_at.Goals as goal

pub returns-then-c-j : goal.returns-then-c-j
returns-then-c-j c = let all_of = bit_none _ _ (omega arith) in record { is = all_of.0; small = all_of.1.0; near = all_of.1.1 }

pub returns-then-j-ge2147483647 : goal.returns-then-j-ge2147483647
returns-then-j-ge2147483647 c = let all_of = bit_none _ _ (omega arith) in record { is = all_of.0; small = all_of.1.0; near = all_of.1.1 }

pub overflow_cast-result : goal.overflow_cast-result
overflow_cast-result c = omega (arith, c.type_inv.c (c.args.i / 8))

pub returns : goal.returns
returns c = let all_of = bit_some _ _ (omega arith) in record { is = all_of.0; small = all_of.1.0; near = all_of.1.1 }
