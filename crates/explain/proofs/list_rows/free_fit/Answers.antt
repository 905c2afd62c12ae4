-- `explain::list_rows::free_fit` meets its contract. Assumes nothing.
use borrow.Author.Rules.{rules}
use Rattle.explain.proofs.DirectoryLaws.{free_fit_none, free_fit_some, free_inside}
use Rattle.explain.proofs.list_rows.free_fit.Goals as goal

pub returns-then-file_space_reference-eq0 : goal.returns-then-file_space_reference-eq0
returns-then-file_space_reference-eq0 c = search (rules, free_fit_none)

pub free_fitting-requires : goal.free_fitting-requires
free_fitting-requires c = search (rules, free_inside)

pub returns : goal.returns
returns c = search (rules, free_fit_some)
