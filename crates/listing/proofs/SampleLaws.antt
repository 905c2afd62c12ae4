-- Document 01's examples are listed as it prints them. Assumes nothing.
use Rattle.std.specs.Prelude.{Result, ⊤}
use Rattle.answer.specs.declared.Refusal.{Refusal}
use mathlib.Core.Path.{ap}
use lib.Dec.{leb}
use lib.ListN.{length}
use borrow.Author.Tests.{le-leb, lt-leb}
use Rattle.wire.specs.Pick.{pick}
use Rattle.wire.specs.Bytes.{byte_at, number, number_at, part}
use Rattle.wire.specs.Tests.{passes}
use Rattle.record.specs.Record.{record_ok}
use Rattle.record.specs.Chain.{starts, starts_go, header_end, records, records_of}
use Rattle.geometry.specs.Tiles.{tile_count, tiles_along, tiles_in}
use Rattle.bodies.specs.TileRecord.{tile_index}
use Rattle.wire.specs.Lists.{select, some}
use Rattle.tile_routes.specs.Ways.{carries}
use Rattle.sample_page.specs.Page.{file}
use Rattle.sample_page.proofs.SampleLaws.{sample_read}
use Rattle.listing.specs.Text.{at_word, decimal, digits, elements_word, grid_word, line, of_word, refused_word, tile_word, too_long, written_word}
use Rattle.listing.specs.Listing.{index_lines, listed, listed_by, listing, written}
use Rattle.listing.specs.Sample.{SampleListed}

pub sample_listed : SampleListed
unfolding at_word byte_at carries decimal digits elements_word grid_word header_end index_lines line listed listed_by listing number number_at of_word part passes record_ok records records_of refused_word select some starts starts_go tile_count tile_index tile_word tiles_along tiles_in too_long written written_word
sample_listed =
    record {
      page = ap (λ (v : Result ⊤ Refusal). pick (leb (length file) 65536) (listed_by v file) too_long) sample_read.accepted;
      version = λ s h e. rw (le-leb (length s) 65536 h, e);
      long = λ s h. rw (lt-leb (length s) 65536 h);
    }
