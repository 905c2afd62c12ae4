-- `check_records::faults::body_right` meets its contract. Assumes nothing.
use borrow.Author.Rules.{rules}
use Rattle.check_records.proofs.RecordLaws.{body_tile, body_metadata, body_other}
use Rattle.check_records.proofs.faults.body_right.Goals as goal

pub returns-then-kind-eq-TILE : goal.returns-then-kind-eq-TILE
returns-then-kind-eq-TILE c = search (rules, body_tile, body_metadata, body_other)

pub returns-then-kind-eq-METADATA : goal.returns-then-kind-eq-METADATA
returns-then-kind-eq-METADATA c = search (rules, body_tile, body_metadata, body_other)

pub returns : goal.returns
returns c = search (rules, body_tile, body_metadata, body_other)
