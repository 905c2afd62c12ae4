-- `squeeze::moving::slide` meets its contract. Assumes nothing.
use borrow.Author.Rules.{rules}
use native.Mathlib.Omega.{arith}
use lib.ListN.{length-set}
use Rattle.squeeze.proofs.MoveLaws.{slid_none, slid_more, slid_all}
use Rattle.squeeze.proofs.moving.slide.Goals as goal

pub loop-i-init : goal.loop-i-init
loop-i-init c = (search rules, search rules, search rules, search rules, slid_none _ _ _ (omega arith))

pub loop-i-preserved : goal.loop-i-preserved
loop-i-preserved c = (search rules, search rules, search rules, simp length-set (search rules), slid_more _ _ _ _ _ c.loop-i.invariant.4 (omega arith) (omega arith))

pub returns : goal.returns
returns c = slid_all _ _ _ _ _ _ c.loop-i.invariant.4 (omega arith) (omega arith)
