-- `check_header::start::bytes_needed` meets its contract. Assumes nothing.
use borrow.Author.Rules.{rules}
use Rattle.check_start.proofs.StartLaws.{given-rules}
use Rattle.check_start.proofs.start.bytes_needed.Goals as goal

pub returns-then-s-lt16 : goal.returns-then-s-lt16
returns-then-s-lt16 c = search (rules, given-rules)

pub returns-then-s-lt24 : goal.returns-then-s-lt24
returns-then-s-lt24 c = search (rules, given-rules)

pub returns : goal.returns
returns c = search (rules, given-rules)
