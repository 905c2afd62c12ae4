-- `says::lists::put_item` meets its contract. Assumes nothing.
use borrow.Author.Rules.{rules}
use native.Mathlib.Omega.{arith}
use mathlib.Core.Path.{sym, ◌∙◌}
use lib.ListN.{length-set}
use Rattle.wire.proofs.PutLaws.{put_not, pasted_none, pasted_more, pasted_all}
use Rattle.says.proofs.lists.put_item.Goals as goal

pub returns-then-numbers-item : goal.returns-then-numbers-item
returns-then-numbers-item c = sym (put_not _ _ _ (omega arith))

pub returns-then-numbers-item-2 : goal.returns-then-numbers-item-2
returns-then-numbers-item-2 c = sym (put_not _ _ _ (omega arith))

pub loop-i-init : goal.loop-i-init
loop-i-init c = (search rules, search rules, pasted_none _ _ _)

pub loop-i-preserved : goal.loop-i-preserved
loop-i-preserved c = (search rules, simp length-set (search rules), rw c.loop-i.invariant.2 (pasted_more _ _ _ _ (omega arith) (omega arith)))

pub returns : goal.returns
returns c = c.loop-i.invariant.2 ∙ pasted_all _ _ _ _ (omega arith) (omega arith)
