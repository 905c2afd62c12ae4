-- `gvrs_c::explanation::explained_numbers` meets its contract. Assumes nothing.
use borrow.Author.Rules.{rules}
use Rattle.gvrs_c.proofs.ExplanationLaws.{numbers_accepted, numbers_refused}
use Rattle.gvrs_c.proofs.explanation.explained_numbers.Goals as goal

pub returns-in-Ok : goal.returns-in-Ok
returns-in-Ok c = search (rules, numbers_accepted)

pub returns-in-Err : goal.returns-in-Err
returns-in-Err c = search (rules, numbers_refused)
