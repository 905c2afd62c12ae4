-- `explain::tile_rows::sections_end` meets its contract. Assumes nothing.
use borrow.Author.Rules.{rules}
use Rattle.record_reasons.proofs.BodyLaws.{sections_end_told}
use Rattle.record_reasons.proofs.tile_rows.sections_end.Goals as goal

pub returns : goal.returns
returns c = search (rules, sections_end_told)
