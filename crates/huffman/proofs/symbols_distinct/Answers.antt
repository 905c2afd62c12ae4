-- `huffman::symbols_distinct` meets its contract. Assumes nothing.
use Rattle.huffman.proofs.SymbolLaws.{pass_start, pass_end, pass_branch, pass_twice, pass_leaf}
use lib.ListN.{length-set, length-take}
use mathlib.Core.Path.{refl}
use native.Mathlib.Omega.{arith}
use Rattle.huffman.proofs.symbols_distinct.Goals as goal

pub loop-i-init : goal.loop-i-init
loop-i-init c = (refl, pass_start _ _)

pub overflow_cast-node : goal.overflow_cast-node
overflow_cast-node c = omega (arith, c.type_inv.nodes c.loop-i.i)

pub loop-i-preserved-then-node-ge256 : goal.loop-i-preserved-then-node-ge256
loop-i-preserved-then-node-ge256 c = (c.loop-i.invariant.0, pass_branch _ _ _ _ c.loop-i.invariant.1 (omega arith) (omega arith) (omega arith))

pub returns-then-seen-node : goal.returns-then-seen-node
returns-then-seen-node c = pass_twice _ _ _ _ c.loop-i.invariant.1 (omega arith) (omega arith) (omega arith) c.if-seen-node.true

pub loop-i-preserved : goal.loop-i-preserved
loop-i-preserved c = (simp length-set c.loop-i.invariant.0, pass_leaf _ _ _ _ c.loop-i.invariant.1 (omega arith) (omega arith) (omega arith) c.loop-i.invariant.0 c.if-seen-node.false)

pub returns : goal.returns
returns c = pass_end _ _ _ _ c.loop-i.invariant.1 (rw length-take (omega arith))
