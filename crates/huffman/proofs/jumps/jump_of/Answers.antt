-- `huffman::jumps::jump_of` meets its contract. Assumes nothing.
use Rattle.huffman.proofs.JumpLaws.{jump_none, jump_node, jump_root}
use native.Mathlib.Omega.{arith}
use Rattle.huffman.proofs.jumps.jump_of.Goals as goal

pub returns-then-j-ge8448 : goal.returns-then-j-ge8448
returns-then-j-ge8448 c = jump_none _ _ (omega arith)

pub returns-then-j-ge256 : goal.returns-then-j-ge256
returns-then-j-ge256 c = jump_node _ _ _ c.walk.ensures (omega arith) (omega arith)

pub returns : goal.returns
returns c = jump_root _ _ _ c.walk-2.ensures (omega arith)
