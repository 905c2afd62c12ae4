-- `reasons::rows::holds` meets its contract. Assumes nothing.
use borrow.Author.Rules.{rules}
use Rattle.reasons.proofs.ReasonLaws.{kept_is, broken_is}
use Rattle.reasons.proofs.rows.holds.Goals as goal

pub returns-then-kept : goal.returns-then-kept
returns-then-kept c = kept_is _ (search rules)

pub returns : goal.returns
returns c = broken_is _ (search rules)
