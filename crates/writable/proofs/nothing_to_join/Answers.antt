-- `writable::nothing_to_join` meets its contract. Assumes nothing.
use borrow.Author.Rules.{rules}
use Rattle.writable.proofs.JoinLaws.{join}
use Rattle.writable.proofs.nothing_to_join.Goals as goal

pub loop-kind-init : goal.loop-kind-init
loop-kind-init c = search (rules, join)

pub enum_known-kind : goal.enum_known-kind
enum_known-kind c = search (rules, join)

pub returns-in_default : goal.returns-in_default
returns-in_default c = search (rules, join)

pub returns-then-both_free : goal.returns-then-both_free
returns-then-both_free c = search (rules, join)

pub loop-kind-smaller : goal.loop-kind-smaller
loop-kind-smaller c = search (rules, join)

pub loop-kind-preserved : goal.loop-kind-preserved
loop-kind-preserved c = search (rules, join)
