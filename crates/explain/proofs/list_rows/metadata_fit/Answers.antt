-- `explain::list_rows::metadata_fit` meets its contract. Assumes nothing.
use borrow.Author.Rules.{rules}
use Rattle.explain.proofs.DirectoryLaws.{metadata_fit_none, metadata_fit_some, metadata_inside}
use Rattle.explain.proofs.list_rows.metadata_fit.Goals as goal

pub returns-then-metadata_reference-eq0 : goal.returns-then-metadata_reference-eq0
returns-then-metadata_reference-eq0 c = search (rules, metadata_fit_none)

pub metadata_fitting-requires : goal.metadata_fitting-requires
metadata_fitting-requires c = search (rules, metadata_inside)

pub returns : goal.returns
returns c = search (rules, metadata_fit_some)
