-- `writable::is_opened` meets its contract. Assumes nothing.
use borrow.Author.Rules.{rules}
use Rattle.writable.proofs.TestLaws.{opened_not, opened_is}
use Rattle.writable.proofs.is_opened.Goals as goal

pub returns-then-verdict_number-ne5 : goal.returns-then-verdict_number-ne5
returns-then-verdict_number-ne5 c = search (rules, opened_not)

pub returns : goal.returns
returns c = search (rules, opened_is)
