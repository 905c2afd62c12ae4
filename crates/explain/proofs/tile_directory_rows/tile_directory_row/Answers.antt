-- `explain::tile_directory_rows::tile_directory_row` meets its contract. Assumes nothing.
use borrow.Author.Rules.{rules}
use Rattle.explain.proofs.JoinLaws.{tile_inside}
use Rattle.explain.proofs.tile_directory_rows.tile_directory_row.Goals as goal

pub tile_behind-requires : goal.tile_behind-requires
tile_behind-requires c = search (rules, tile_inside)
