-- `huffman::bits::octet_at` meets its contract. Assumes nothing.
use Rattle.huffman.proofs.WindowLaws.{octet_told}
use native.Mathlib.Omega.{arith}
use Prim.Native.Nat.{◌+◌, ◌/◌}
use Rattle.huffman.proofs.bits.octet_at.Goals as goal

pub overflow_cast-result : goal.overflow_cast-result
overflow_cast-result c = omega (arith, c.type_inv.c (c.args.i / 8))

pub overflow_cast-result-2 : goal.overflow_cast-result-2
overflow_cast-result-2 c = omega (arith, c.type_inv.c (c.args.i / 8 + 1))

pub overflow_mul-result : goal.overflow_mul-result
overflow_mul-result c = omega (arith, c.type_inv.c (c.args.i / 8 + 1))

pub overflow_add-result-2 : goal.overflow_add-result-2
overflow_add-result-2 c = omega (arith, c.type_inv.c (c.args.i / 8), c.type_inv.c (c.args.i / 8 + 1))

pub returns : goal.returns
returns c = let all_of = octet_told _ _ (omega arith) (omega (arith, c.type_inv.c (c.args.i / 8))) in record { is = all_of.0; small = all_of.1 }
