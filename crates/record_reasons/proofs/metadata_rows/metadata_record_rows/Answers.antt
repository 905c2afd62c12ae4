-- `explain::metadata_rows::metadata_record_rows` meets its contract. Assumes nothing.
use borrow.Author.Rules.{rules}
use Rattle.record_reasons.proofs.BodyLaws.{metadata_body_kept}
use Rattle.record_reasons.proofs.metadata_rows.metadata_record_rows.Goals as goal

pub returns-then-metadata_right : goal.returns-then-metadata_right
returns-then-metadata_right c = search (rules, metadata_body_kept)
