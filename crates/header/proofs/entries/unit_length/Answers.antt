-- `header::entries::unit_length` meets its contract. Assumes nothing.
use Rattle.header.proofs.EntryLaws.{length_of_unit}
use borrow.Author.Rules.{rules}
use Rattle.header.proofs.entries.unit_length.Goals as goal

pub returns : goal.returns
returns c = search (rules, length_of_unit)
