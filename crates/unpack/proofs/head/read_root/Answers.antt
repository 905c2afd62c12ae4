-- `unpack::head::read_root` meets its contract. Assumes nothing.
use Rattle.unpack.proofs.HeadLaws.{root_bad, root_few, root_twice, root_good}
use mathlib.Core.Path.{refl}
use native.Mathlib.Omega.{arith}
use Rattle.unpack.proofs.head.read_root.Goals as goal

pub returns-in_err-tree : goal.returns-in_err-tree
returns-in_err-tree c h = rw c.from_residual.ensures (root_bad _ _ _ _ _ h (omega (arith, c.byte_at-count.ensures.is)) (omega (arith, c.byte_at-count.ensures.small)) c.tree_of.ensures.is c.in_err-tree.was)

pub returns-then-tree-ne0 : goal.returns-then-tree-ne0
returns-then-tree-ne0 c h = root_few _ _ _ _ _ h (omega (arith, c.byte_at-count.ensures.is)) (omega (arith, c.byte_at-count.ensures.small)) c.tree_of.ensures.is _ _ _ c.in_ok-tree.was c.if-tree-ne0.true

pub returns-then-symbols_distinct : goal.returns-then-symbols_distinct
returns-then-symbols_distinct c h = root_good _ _ _ _ _ h (omega (arith, c.byte_at-count.ensures.is)) (omega (arith, c.byte_at-count.ensures.small)) c.tree_of.ensures.is _ _ _ c.in_ok-tree.was (omega arith) _ c.tree_of.ensures.holds refl _ c.symbols_distinct.ensures c.if-symbols_distinct.true

pub returns : goal.returns
returns c h = root_twice _ _ _ _ _ h (omega (arith, c.byte_at-count.ensures.is)) (omega (arith, c.byte_at-count.ensures.small)) c.tree_of.ensures.is _ _ _ c.in_ok-tree.was (omega arith) _ c.tree_of.ensures.holds refl _ c.symbols_distinct.ensures c.if-symbols_distinct.false
