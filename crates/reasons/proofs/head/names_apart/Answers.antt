-- `reasons::head::names_apart` meets its contract. Assumes nothing.
use Rattle.check_header.proofs.HeaderLaws.{differ_not, differ_yes}
use borrow.Author.Rules.{rules}
use Rattle.reasons.proofs.head.names_apart.Goals as goal

pub returns-then-same_name : goal.returns-then-same_name
returns-then-same_name c = search (rules, differ_not)

pub returns : goal.returns
returns c = search (rules, differ_yes)
