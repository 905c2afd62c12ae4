-- `writable::directories_open` meets its contract. Assumes nothing.
use borrow.Author.Rules.{rules}
use Rattle.writable.specs.Writable.{directories_open}
use Rattle.writable.proofs.TestLaws.{asked}
use Rattle.writable.proofs.directories_open.Goals as goal

pub returns-then-metadata_directory_right : goal.returns-then-metadata_directory_right
unfolding directories_open
returns-then-metadata_directory_right c = search (rules, asked)

pub returns-else-metadata_directory_right : goal.returns-else-metadata_directory_right
unfolding directories_open
returns-else-metadata_directory_right c = search (rules, asked)

pub returns-else-directory_full : goal.returns-else-directory_full
unfolding directories_open
returns-else-directory_full c = search (rules, asked)

pub returns-else-tile_directory_right : goal.returns-else-tile_directory_right
unfolding directories_open
returns-else-tile_directory_right c = search (rules, asked)
