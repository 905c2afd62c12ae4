-- `explain::tile_rows::tile_record_rows` meets its contract. Assumes nothing.
use borrow.Author.Rules.{rules}
use Rattle.record_reasons.proofs.BodyLaws.{tile_body_kept}
use Rattle.record_reasons.proofs.tile_rows.tile_record_rows.Goals as goal

pub returns-then-tile_right : goal.returns-then-tile_right
returns-then-tile_right c = search (rules, tile_body_kept)
