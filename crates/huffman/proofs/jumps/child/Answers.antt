-- `huffman::jumps::child` meets its contract. Assumes nothing.
use native.Mathlib.Omega.{arith}
use Rattle.huffman.proofs.SymbolLaws.{child_left, child_right}
use Rattle.huffman.proofs.jumps.child.Goals as goal

pub returns-then-bit-eq0 : goal.returns-then-bit-eq0
returns-then-bit-eq0 c = child_left _ _ _ (omega arith)

pub returns : goal.returns
returns c = child_right _ _ _ (λ e. omega arith)
