-- A page from nothing. g, u, es and ts are a description as it is given; t is the time modified, ix the tile indexes, c the cell bytes of
-- those tiles one after another.
use Rattle.std.specs.Prelude.{ℕ, ◌*◌, ◌≤◌, ◌<◌, ◌≡◌, List, true, length, Ok}
use Rattle.wire.specs.Bytes.{Bytes}
use Rattle.header.specs.Element.{element, integer_coded_kind}
use Rattle.geometry.specs.Tiles.{tiles_in}
use Rattle.check_header.specs.Ceilings.{most_file_bytes}
use Rattle.fronts.specs.Front.{Description, front_of}
use Rattle.fronts.specs.Judged.{tile_told, FrontSays}
use Rattle.fronts.specs.Given.{described_by, front_made, Words}
use Rattle.lay_down.specs.Page.{file_length, laid_file}
use Rattle.lay_down.specs.Answer.{ascending, laid}
use Rattle.read_back.specs.ReadBack.{Done}

-- what a lay-down is given beside a front, said of the description: a time that is not zero, indexes that ascend strictly below the number
-- of tiles, and as many cell bytes as these tiles take
pub record CellsGiven (d : Description) (t : ℕ) (ix c : List ℕ) : Type 0 where
  pub time : t ≡ 0 → ⊥
  pub indexes : ascending (tiles_in d.rows d.columns d.tile_rows_lem d.tile_columns_lem) 0 ix ≡ true
  pub cells : length c ≡ length ix * tile_told d.tile_rows_lem d.tile_columns_lem d.elements d.element

-- the page that is laid down with the front of a description: it is not refused, it is accepted and reads back (`ReadsBack`), and its
-- header says what it was told, word for word
pub record NewPage (d : Description) (t : ℕ) (ix c out : List ℕ) : Type 0 where
  pub answer : laid (front_of d) t ix c (length out) ≡ Ok (file_length (front_of d) ix)
  pub done : Done (front_of d) t ix c out (file_length (front_of d) ix)
  pub says : FrontSays (laid_file (front_of d) t ix c) d
  -- G Table 11: the fill of an integer-coded element is its integer fill, the last of the eight numbers of its range
  pub coded_fill : (e : ℕ) → e < d.elements → (d.element e).kind ≡ integer_coded_kind → (element (laid_file (front_of d) t ix c) e).fill ≡ (d.element e).range 7

-- of every front that is made, where the file keeps its ceiling and the buffer has room for it
abbrev pub FromNothing : Type 0
FromNothing =
    (g u es ts : List ℕ) (room n t : ℕ) (ix c out : List ℕ) → Words g → Bytes u → Words es → Bytes ts → Bytes c →
    front_made g u es ts room ≡ Ok n → CellsGiven (described_by g u es ts) t ix c →
    file_length (front_of (described_by g u es ts)) ix ≤ most_file_bytes → file_length (front_of (described_by g u es ts)) ix ≤ length out →
    NewPage (described_by g u es ts) t ix c out
