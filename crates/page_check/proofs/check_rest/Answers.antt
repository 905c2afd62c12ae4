-- `page_check::check_rest` meets its contract. Assumes nothing.
use borrow.Author.Rules.{rules}
use Rattle.page_check.proofs.HalfLaws.{halves}
use Rattle.page_check.proofs.check_rest.Goals as goal

pub returns-in_err-check_start-clause-value : goal.returns-in_err-check_start-clause-value
returns-in_err-check_start-clause-value c = search (rules, halves)

pub returns-in_err-check_start-clause-whole : goal.returns-in_err-check_start-clause-whole
returns-in_err-check_start-clause-whole c = search (rules, halves)

pub returns-clause-value : goal.returns-clause-value
returns-clause-value c = search (rules, halves)

pub returns-clause-whole : goal.returns-clause-whole
returns-clause-whole c = search (rules, halves)
