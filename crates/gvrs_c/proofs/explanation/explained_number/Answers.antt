-- `gvrs_c::explanation::explained_number` meets its contract. Assumes nothing.
use borrow.Author.Rules.{rules}
use Rattle.gvrs_c.proofs.ExplanationLaws.{number_refused}
use Rattle.gvrs_c.proofs.explanation.explained_number.Goals as goal

pub returns-in-Err : goal.returns-in-Err
returns-in-Err c = search (rules, number_refused)
