-- `check_lists::lists::listed_once` meets its contract. Assumes nothing.
use borrow.Author.Rules.{rules}
use native.Mathlib.Omega.{arith}
use Prim.Native.Nat.{◌+◌}
use Rattle.check_lists.proofs.WindowLaws.{passed_begin}
use Rattle.check_lists.proofs.RightLaws.{passed_more, passed_not, passed_all}
use Rattle.check_lists.proofs.lists.listed_once.Goals as goal

pub loop-base-init : goal.loop-base-init
loop-base-init c = search (rules, passed_begin)

pub loop-base-preserved : goal.loop-base-preserved
loop-base-preserved c = search (rules, passed_more)

pub returns-then-not-window_right : goal.returns-then-not-window_right
returns-then-not-window_right c = search (rules, passed_not)

pub returns-else-not-window_right : goal.returns-else-not-window_right
returns-else-not-window_right c = passed_all c.args.s.now c.args.list (c.loop-base.base + 1048576) (search (rules, passed_more)) (omega arith)

pub returns : goal.returns
returns c = search (rules, passed_all)
