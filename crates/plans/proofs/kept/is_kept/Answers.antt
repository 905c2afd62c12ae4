-- `plans::kept::is_kept` meets its contract. Assumes nothing.
use borrow.Author.Rules.{rules}
use Rattle.plans.proofs.KeptLaws.{kept_not, kept_is}
use Rattle.plans.proofs.kept.is_kept.Goals as goal

pub returns-then-kind-eq-FREE : goal.returns-then-kind-eq-FREE
returns-then-kind-eq-FREE c = search (rules, kept_not)

pub returns : goal.returns
returns c = search (rules, kept_is)
