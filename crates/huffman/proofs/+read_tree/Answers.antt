-- `huffman::read_tree` meets its contract. Assumes nothing.
use mathlib.Core.Path.{◌∙◌}
use native.Mathlib.Omega.{arith}
use lib.ListN.{length-set}
use Rattle.huffman.proofs.NodeLaws.{near, done_none, done_past, done_short, done_leaf, done_left, done_branch}
use Rattle.huffman.proofs.+read_tree.Goals as goal

pub returns-then-left-eq0 : goal.returns-then-left-eq0
returns-then-left-eq0 t c = let all_of = done_none _ _ _ _ _ c.if-left-eq0.true in record { is = all_of.0; holds = all_of.1.0; below = all_of.1.1 }

pub returns-then-bit-eq2 : goal.returns-then-bit-eq2
returns-then-bit-eq2 t c =
    let all_of = done_past _ _ _ _ _ _ c.bit_at-bit.ensures.is c.if-bit-eq2.true in
    record { is = all_of.0; holds = all_of.1.0; below = all_of.1.1 }

pub returns-then-y-eq256 : goal.returns-then-y-eq256
returns-then-y-eq256 t c =
    let all_of = done_short _ _ _ _ _ _ _ (omega arith) c.bit_at-bit.ensures.is c.if-bit-eq1.true c.octet_at-y.ensures.is c.if-y-eq256.true in
    record { is = all_of.0; holds = all_of.1.0; below = all_of.1.1 }

pub returns-then-bit-eq1 : goal.returns-then-bit-eq1
returns-then-bit-eq1 t c =
    let all_of = done_leaf _ _ _ _ _ _ _ (omega arith) c.bit_at-bit.ensures.is c.if-bit-eq1.true c.octet_at-y.ensures.is c.if-y-eq256.false (omega arith) in
    record { is = all_of.0; holds = all_of.1.0; below = all_of.1.1 }

pub overflow_cast-nodes : goal.overflow_cast-nodes
overflow_cast-nodes t c =
    let k = near _ _ _ _ _ c.read_tree.ensures.is _ _ _ c.requires.0 (omega arith) (c.in_ok-child.was) in
    omega (arith, k.room)

pub overflow_add-nodes : goal.overflow_add-nodes
overflow_add-nodes t c =
    let k = near _ _ _ _ _ c.read_tree.ensures.is _ _ _ c.requires.0 (omega arith) (c.in_ok-child.was) in
    omega (arith, k.room)

pub overflow_add-child : goal.overflow_add-child
overflow_add-child t c =
    let k = near _ _ _ _ _ c.read_tree.ensures.is _ _ _ c.requires.0 (omega arith) (c.in_ok-child.was) in
    omega (arith, k.room)

pub read_tree-requires-2 : goal.read_tree-requires-2
read_tree-requires-2 t c =
    let k = near _ _ _ _ _ c.read_tree.ensures.is _ _ _ c.requires.0 (omega arith) (c.in_ok-child.was) in
    (omega (arith, k.falls), (k.room, simp length-set (omega (arith, c.read_tree.auto.nodes, c.requires.1))))

pub returns-in_err-child : goal.returns-in_err-child
returns-in_err-child t c =
    let all_of = done_left _ _ _ _ _ c.read_tree.ensures.is _ _ (omega arith) (omega (arith, c.bit_at-bit.ensures.is)) c.in_err-child.was c.read_tree.ensures.below in
    record { is = c.from_residual.ensures ∙ all_of.0; holds = all_of.1.0; below = all_of.1.1 }

pub returns : goal.returns
returns t c =
    let all_of =
    done_branch _ _ _ _ _ c.read_tree.ensures.is _ _ _ _ _ _ _ (omega arith) (omega (arith, c.bit_at-bit.ensures.is)) (omega (arith, c.read_tree.auto.nodes))
    (c.in_ok-child.was) c.read_tree.ensures.holds c.read_tree.ensures.below
    (c.read_tree-2.ensures.is, (c.read_tree-2.ensures.holds, c.read_tree-2.ensures.below)) in
    record { is = all_of.0; holds = all_of.1.0; below = all_of.1.1 }
