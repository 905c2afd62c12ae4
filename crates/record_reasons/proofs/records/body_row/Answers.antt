-- `explain::records::body_row` meets its contract. Assumes nothing.
use borrow.Author.Rules.{rules}
use Rattle.record_reasons.proofs.BodyLaws.{row_of_tile, row_of_metadata, row_of_other}
use Rattle.record_reasons.proofs.records.body_row.Goals as goal

pub returns-then-kind-eq-TILE : goal.returns-then-kind-eq-TILE
returns-then-kind-eq-TILE c = search (rules, row_of_tile)

pub returns-then-kind-eq-METADATA : goal.returns-then-kind-eq-METADATA
returns-then-kind-eq-METADATA c = search (rules, row_of_metadata)

pub returns : goal.returns
returns c = search (rules, row_of_other)
