-- `huffman::jumps::walk` meets its contract. Assumes nothing.
use Rattle.huffman.proofs.JumpLaws.{walk_begins, walk_leaf, walk_stands, walk_goes}
use native.Mathlib.Omega.{arith}
use Rattle.huffman.proofs.jumps.walk.Goals as goal

pub loop-u-init : goal.loop-u-init
loop-u-init c = walk_begins _ _ _ _ (omega arith)

pub returns-then-node-lt256 : goal.returns-then-node-lt256
returns-then-node-lt256 c = walk_leaf _ _ _ _ _ _ _ (omega arith) c.loop-u.invariant.1 _ c.number_in-node.ensures (omega arith)

pub loop-u-preserved : goal.loop-u-preserved
loop-u-preserved c = walk_goes _ _ _ _ _ _ _ (omega arith) c.loop-u.invariant.1 _ _ c.number_in-node.ensures (omega arith) (omega arith) (omega arith) c.loop-u.invariant.0 c.child-i.ensures

pub returns-then-node-lt256-2 : goal.returns-then-node-lt256-2
returns-then-node-lt256-2 c = omega (arith, walk_leaf _ _ _ _ _ _ _ (omega arith) c.loop-u.invariant.1 _ c.number_in-node-2.ensures (omega arith))

pub returns : goal.returns
returns c = walk_stands _ _ _ _ _ _ _ (omega arith) c.loop-u.invariant.1 _ c.number_in-node-2.ensures (omega arith) (omega arith)
