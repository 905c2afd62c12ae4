-- `check_header::start::header_given` meets its contract. Assumes nothing.
use Rattle.check_start.proofs.StartLaws.{given-rules}
use borrow.Author.Rules.{rules}
use Rattle.check_start.proofs.start.header_given.Goals as goal

pub returns-then-s-header_end : goal.returns-then-s-header_end
returns-then-s-header_end c = search (rules, given-rules)

pub returns-else-s-header_end : goal.returns-else-s-header_end
returns-else-s-header_end c = search (rules, given-rules)

pub returns-else-length_right : goal.returns-else-length_right
returns-else-length_right c = search (rules, given-rules)
