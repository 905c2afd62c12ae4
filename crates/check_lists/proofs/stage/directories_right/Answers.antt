-- `check_lists::stage::directories_right` meets its contract. Assumes nothing.
use Rattle.check_lists.proofs.StageLaws.{no_tiles, no_metadata, stage_is}
use borrow.Author.Rules.{rules}
use Rattle.check_lists.proofs.stage.directories_right.Goals as goal

pub returns-then-metadata_directory_right : goal.returns-then-metadata_directory_right
returns-then-metadata_directory_right c = search (rules, stage_is)

pub returns-else-metadata_directory_right : goal.returns-else-metadata_directory_right
returns-else-metadata_directory_right c = search (rules, no_metadata)

pub returns-else-tile_directory_right : goal.returns-else-tile_directory_right
returns-else-tile_directory_right c = search (rules, no_tiles)
