-- `listing::put_written` meets its contract. Assumes nothing.
use Rattle.listing.proofs.LineLaws.{line_of}
use Rattle.listing.specs.Text.{written_word, of_word}
use Rattle.listing.specs.Listing.{written}
use Rattle.listing.proofs.put_written.Goals as goal

pub returns-clause-text : goal.returns-clause-text
unfolding written_word of_word written
returns-clause-text c = line_of written_word of_word c.put_line.ensures.text c.record_count-count.ensures c.tile_count-all.ensures
