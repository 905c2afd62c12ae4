-- `huffman::by_bits` meets its contract. Assumes nothing.
use Rattle.huffman.proofs.NextLaws.{loop_out, loop_leaf, loop_end, loop_on}
use mathlib.Core.Path.{refl}
use native.Mathlib.Omega.{arith}
use Rattle.huffman.proofs.by_bits.Goals as goal

pub loop-i-init : goal.loop-i-init
loop-i-init c = refl

pub returns-then-nodes-i : goal.returns-then-nodes-i
returns-then-nodes-i c = loop_out _ _ _ _ _ _ c.loop-i.invariant (omega arith)

pub returns-then-node-lt256 : goal.returns-then-node-lt256
returns-then-node-lt256 c = loop_leaf _ _ _ _ _ _ c.loop-i.invariant (omega arith) (omega arith)

pub returns-then-bit-eq2 : goal.returns-then-bit-eq2
returns-then-bit-eq2 c = loop_end _ _ _ _ _ _ c.loop-i.invariant _ (omega arith) (omega arith) c.bit_at-bit.ensures.is c.if-bit-eq2.true

pub overflow_add-pos : goal.overflow_add-pos
overflow_add-pos c = omega (arith, c.bit_at-bit.ensures.near (omega arith))

pub loop-i-smaller : goal.loop-i-smaller
loop-i-smaller c = omega (arith, c.bit_at-bit.ensures.near (omega arith))

pub loop-i-preserved : goal.loop-i-preserved
loop-i-preserved c = loop_on _ _ _ _ _ _ c.loop-i.invariant _ _ (omega arith) (omega arith) c.bit_at-bit.ensures.is c.if-bit-eq2.false c.child-i.ensures
