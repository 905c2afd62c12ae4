-- `check_records::tile_body::sections_end_right` meets its contract. Assumes nothing.
use Rattle.check_records.proofs.RecordLaws.{tile_end_is}
use borrow.Author.Rules.{rules}
use Rattle.check_records.proofs.tile_body.sections_end_right.Goals as goal

pub returns : goal.returns
returns c = search (rules, tile_end_is)
