-- `huffman::bits::octet_by_bits` meets its contract. Assumes nothing.
use Rattle.huffman.proofs.BitLaws.{bit_out, octet_out, octet_start, octet_more, octet_end, bits_few}
use Prim.Native.Nat.{◌+◌, ◌-◌}
use mathlib.Core.Path.{sym, ◌∙◌}
use native.Mathlib.Omega.{arith}
use Rattle.huffman.proofs.bits.octet_by_bits.Goals as goal

pub returns-then-i-ge17179869176-clause-is : goal.returns-then-i-ge17179869176-clause-is
returns-then-i-ge17179869176-clause-is c = sym (octet_out _ _ (bit_out _ _ (omega arith)))

pub returns-then-bit_at-eq2-clause-is : goal.returns-then-bit_at-eq2-clause-is
returns-then-bit_at-eq2-clause-is c = sym (octet_out _ _ (sym c.bit_at.ensures.is ∙ c.if-bit_at-eq2.true))

pub loop-k-init : goal.loop-k-init
loop-k-init c = octet_start _ _

pub overflow_mul-v : goal.overflow_mul-v
overflow_mul-v c = omega (arith, bits_few c.args.c.now (8 - c.loop-k.k) (c.args.i + c.loop-k.k) (omega arith))

pub overflow_add-v : goal.overflow_add-v
overflow_add-v c = omega (arith, bits_few c.args.c.now (8 - c.loop-k.k) (c.args.i + c.loop-k.k) (omega arith))

pub loop-k-preserved : goal.loop-k-preserved
loop-k-preserved c = octet_more _ _ _ _ _ (omega arith) (omega arith) c.loop-k.invariant c.bit_at-in-loop-k.ensures.is

pub returns : goal.returns
returns c = let all_of = octet_end _ _ _ _ (omega arith) c.loop-k.invariant (omega (arith, c.bit_at.ensures.is, c.bit_at.ensures.small)) in record { is = all_of.0; small = all_of.1 }
