-- `header::entries::unit_place` meets its contract. Assumes nothing.
use Rattle.header.proofs.EntryLaws.{place_of_unit}
use borrow.Author.Rules.{rules}
use Rattle.header.proofs.entries.unit_place.Goals as goal

pub returns : goal.returns
returns c = search (rules, place_of_unit)
