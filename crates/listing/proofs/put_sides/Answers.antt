-- `listing::put_sides` meets its contract. Assumes nothing.
use Rattle.listing.proofs.LineLaws.{line_of}
use Rattle.listing.proofs.PutsLaws.{puts_then}
use Rattle.listing.specs.Text.{grid_word, tile_word, space}
use Rattle.listing.proofs.put_sides.Goals as goal

pub returns-clause-text : goal.returns-clause-text
unfolding grid_word tile_word
returns-clause-text c =
    puts_then (line_of grid_word space c.put_line-at.ensures.text c.grid_rows-rows.ensures c.grid_columns-columns.ensures) (line_of tile_word space c.put_line.ensures.text c.tile_rows-tile_rows.ensures c.tile_columns-tile_columns.ensures) c.put_line-at.auto.out
