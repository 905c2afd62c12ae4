-- `writable::records_right` meets its contract. Assumes nothing.
use borrow.Author.Rules.{rules}
use Rattle.writable.proofs.TestLaws.{records_not, records_is}
use Rattle.writable.proofs.records_right.Goals as goal

pub returns-then-verdict_number-ne0 : goal.returns-then-verdict_number-ne0
returns-then-verdict_number-ne0 c = search (rules, records_not)

pub returns : goal.returns
returns c = search (rules, records_is)
