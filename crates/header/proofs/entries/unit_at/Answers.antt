-- `header::entries::unit_at` meets its contract. Assumes nothing.
use Rattle.header.proofs.EntryLaws.{unit_is}
use borrow.Author.Rules.{rules}
use Rattle.header.proofs.entries.unit_at.Goals as goal

pub returns-clause-is : goal.returns-clause-is
returns-clause-is c = search (rules, unit_is)
