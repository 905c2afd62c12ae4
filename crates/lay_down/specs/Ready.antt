-- What the inner writers rely on: that the input was judged, and that what they write fits.
use Rattle.std.specs.Prelude.{ℕ, ◌*◌, ◌≤◌, ◌<◌, ◌≡◌, List, true, length, get_or, Ok}
use Rattle.header.specs.Element.{entries_read, most_elements}
use Rattle.geometry.specs.Tiles.{tile_count}
use Rattle.geometry.specs.Sizes.{element_bytes, tile_bytes}
use Rattle.check_header.specs.Stages.{check_front}
use Rattle.check_header.specs.Ceilings.{most_file_bytes}
use Rattle.lay_down.specs.Page.{directory_start, file_length}
use Rattle.lay_down.specs.Answer.{ascending}

-- us are the uncompressed sizes of the elements
abbrev pub SizesOf : List ℕ → List ℕ → Type 0
SizesOf f us = (length us ≡ most_elements) × ((e : ℕ) → e < entries_read f → get_or us e 0 ≡ element_bytes f e)

-- the front passes, c are the cell bytes of one tile, and what is written ends at `end`
abbrev pub TileReady : List ℕ → List ℕ → List ℕ → ℕ → ℕ → Type 0
TileReady f us c end room = (check_front f ≡ Ok tt) × (SizesOf f us × ((length c ≡ tile_bytes f) × (end ≤ room)))

-- c are the cell bytes of the tiles ix, and their records fit
abbrev pub TilesReady : List ℕ → List ℕ → List ℕ → ℕ → Type 0
TilesReady f ix c room = (check_front f ≡ Ok tt) × ((length c ≡ length ix * tile_bytes f) × (directory_start f ix ≤ room))

-- the indexes ascend, and the file keeps its ceiling
abbrev pub IndexesReady : List ℕ → List ℕ → Type 0
IndexesReady f ix = (check_front f ≡ Ok tt) × ((ascending (tile_count f) 0 ix ≡ true) × (file_length f ix ≤ most_file_bytes))
