-- `explain::list_rows::free_list_end` meets its contract. Assumes nothing.
use borrow.Author.Rules.{rules}
use Rattle.explain.proofs.DirectoryLaws.{free_end_told}
use Rattle.explain.proofs.list_rows.free_list_end.Goals as goal

pub returns-clause-is : goal.returns-clause-is
returns-clause-is c = search (rules, free_end_told)
