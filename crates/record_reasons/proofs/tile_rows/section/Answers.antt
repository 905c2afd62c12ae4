-- `record_reasons::tile_rows::section` meets its contract. Assumes nothing.
use borrow.Author.Rules.{rules}
use Rattle.record_reasons.proofs.BodyLaws.{section_stop, section_second}
use Rattle.record_reasons.proofs.tile_rows.section.Goals as goal

pub returns-in_err-at_least : goal.returns-in_err-at_least
returns-in_err-at_least c = search (rules, section_stop)

pub returns : goal.returns
returns c = search (rules, section_second)
