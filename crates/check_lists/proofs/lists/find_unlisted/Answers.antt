-- `check_lists::lists::find_unlisted` meets its contract. Assumes nothing.
use borrow.Author.Rules.{rules}
use native.Mathlib.Omega.{arith}
use Prim.Native.Nat.{◌+◌}
use Rattle.check_lists.proofs.WindowLaws.{passed_begin, passed_more, passed_found, passed_all}
use Rattle.check_lists.proofs.lists.find_unlisted.Goals as goal

pub loop-base-init : goal.loop-base-init
loop-base-init c = search (rules, passed_begin)

pub returns-in-Some : goal.returns-in-Some
returns-in-Some c = search (rules, passed_found)

pub loop-base-preserved : goal.loop-base-preserved
loop-base-preserved c = search (rules, passed_more)

pub returns : goal.returns
returns c = search (rules, passed_all)

pub returns-in_default : goal.returns-in_default
returns-in_default c = passed_all c.args.s.now c.args.list (c.loop-base.base + 1048576) (search (rules, passed_more)) (omega arith)
