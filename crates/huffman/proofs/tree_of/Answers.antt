-- `huffman::tree_of` meets its contract. Assumes nothing.
use Rattle.huffman.proofs.NodeLaws.{root_in, root_bad, root_out}
use Rattle.wire.specs.Bytes.{zeros}
use native.Mathlib.Omega.{arith}
use Rattle.huffman.proofs.tree_of.Goals as goal

pub returns-then-nodes-lt511 : goal.returns-then-nodes-lt511
returns-then-nodes-lt511 c = let all_of = root_out c.args.c.now c.args.nodes.now c.args.left c.args.pos (λ h k. omega arith) in record { is = all_of.0; holds = all_of.1 }

pub returns-then-left-gt256 : goal.returns-then-left-gt256
returns-then-left-gt256 c = let all_of = root_out c.args.c.now c.args.nodes.now c.args.left c.args.pos (λ h k. omega arith) in record { is = all_of.0; holds = all_of.1 }

pub returns-in_default : goal.returns-in_default
unfolding zeros
returns-in_default c = let all_of = root_bad _ _ _ _ (omega arith) (omega arith) _ c.read_tree.ensures.is _ _ c.in_default.is c.read_tree.auto.nodes (c.fill.ensures.after (λ y e. e)) in record { is = all_of.0; holds = all_of.1 }

pub returns : goal.returns
returns c = let all_of = root_in _ _ _ _ (omega arith) (omega arith) _ c.read_tree.ensures.is _ _ _ _ c.in-Some.is c.read_tree.auto.nodes c.read_tree.ensures.holds in record { is = all_of.0; holds = all_of.1 }
