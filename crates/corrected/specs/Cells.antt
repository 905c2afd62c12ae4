-- Req 03: how the cells of a corrected page read. s is the page before the calls, t the page now, `tiles` is the map; e is an element, and
-- the cell is at a row and a column.
use Rattle.std.specs.Prelude.{ℕ, ◌≡◌, true, false, List, [], length, get_or, Err, None, Ok, Some}
use Rattle.wire.specs.Bytes.{Bytes, part}
use Rattle.geometry.specs.Tiles.{cell_tile}
use Rattle.bodies.specs.TileRecord.{element_content_at}
use Rattle.answer.specs.declared.Refusal.TheVariants.{OutsideGrid, Compressed}
use Rattle.answer.specs.declared.Cell.TheVariants as cell
use Rattle.page_check.specs.Stages.{check}
use Rattle.cells.specs.Asked.{in_grid, in_tiles}
use Rattle.cells.specs.TileCells.{location_of, fill_of, is_packed, cell_from}
use Rattle.cells.specs.Meaning.{meaning, content_meaning}
use Rattle.cells.specs.Demand3.{OneAnswer, OneMeaning}
use Rattle.correct.specs.Front.{page_in}
use Rattle.correct.specs.Storing.{tile_at}
use Rattle.page_laws.specs.Tiles.{tiles_of}
use Rattle.correct.specs.Calls.{Call, AllGiven, State, page_of, after_all}
use Rattle.corrected.specs.Sequence.{NoneMoves, AcceptedOrOpen, map_after_all, named_after_all}

-- what the map gives for element e of a tile: its bytes as they are stored
unfoldable pub content_in_map : (ℕ → List (List ℕ)) → ℕ → ℕ → List ℕ
content_in_map tiles tile e = get_or (tiles tile) e []

-- a cell of a tile that the map has: the tile's record stands in t, and the map's bytes say what the cell is, as those of a file do
pub record HeldAs (s t : List ℕ) (tiles : ℕ → List (List ℕ)) (ci row column e : ℕ) : Type 0 where
  pub start : ℕ
  pub found : tile_at t (cell_tile s row column) ≡ Some start
  pub reads :
      let c : List ℕ = content_in_map tiles (cell_tile s row column) e in
      meaning t ci row column e ≡ cell_from s ci c 0 (length c) start (element_content_at t start e) row column e

pub record ReadsAs (s t : List ℕ) (tiles : ℕ → List (List ℕ)) (ci row column e : ℕ) : Type 0 where
  -- outside the grid: 10
  pub outside : in_grid s row column e ≡ false → meaning t ci row column e ≡ Err OutsideGrid
  -- a tile that the map has not: the element's fill
  pub fill : in_grid s row column e ≡ true → tiles (cell_tile s row column) ≡ [] → meaning t ci row column e ≡ fill_of s (location_of s row column) e
  -- a tile that it has
  pub held : in_grid s row column e ≡ true → (tiles (cell_tile s row column) ≡ [] → ⊥) → HeldAs s t tiles ci row column e

-- an element's content in a tile that the map has: the tile's record stands in t, and the map's bytes stand in it. Where they are as many as
-- the element's cells have they are the content; where they are fewer it is 11 at the record's start
pub record ContentHeld (s t : List ℕ) (tiles : ℕ → List (List ℕ)) (tile e : ℕ) : Type 0 where
  pub start : ℕ
  pub found : tile_at t tile ≡ Some start
  pub bytes : part t (element_content_at t start e) (length (content_in_map tiles tile e)) ≡ content_in_map tiles tile e
  pub plain :
      let l : ℕ = length (content_in_map tiles tile e) in
      is_packed s e l ≡ false → content_meaning t tile e ≡ Ok (Some (record { start = element_content_at t start e; length = l }))
  pub packed : is_packed s e (length (content_in_map tiles tile e)) ≡ true → content_meaning t tile e ≡ Err (Compressed start)

pub record ContentAs (s t : List ℕ) (tiles : ℕ → List (List ℕ)) (tile e : ℕ) : Type 0 where
  -- no such tile or element: 10
  pub outside : in_tiles s tile e ≡ false → content_meaning t tile e ≡ Err OutsideGrid
  -- a tile that the map has not: no content
  pub absent : in_tiles s tile e ≡ true → tiles tile ≡ [] → content_meaning t tile e ≡ Ok None
  -- a tile that it has
  pub held : in_tiles s tile e ≡ true → (tiles tile ≡ [] → ⊥) → ContentHeld s t tiles tile e

-- after any calls every way to a tile's record gives the cell's meaning, where the page is accepted again every read does, and the
-- meaning goes by the map, and so do the contents
pub record Read (s t : List ℕ) (tiles : ℕ → List (List ℕ)) : Type 0 where
  pub routes : check t ≡ Ok tt → (ci : ℕ) → OneAnswer t ci
  pub ways : (ci : ℕ) → OneMeaning t ci
  pub cells : (ci row column e : ℕ) → ReadsAs s t tiles ci row column e
  pub contents : (tile e : ℕ) → ContentAs s t tiles tile e

abbrev pub Cells : Type 0
Cells =
    (b : List ℕ) (n : ℕ) → Bytes b → AcceptedOrOpen (page_in b n) → (calls : List Call) → AllGiven calls →
    let start : State = record { buffer = b; long = n } in
    Read (page_in b n) (page_of (after_all calls start)) (map_after_all (page_in b n) calls start (tiles_of (page_in b n)))

-- and where no call moves a record, a cell of a tile that no call names is as it was, value, place and refusal
abbrev pub CellsStay : Type 0
CellsStay =
    (b : List ℕ) (n : ℕ) → Bytes b → AcceptedOrOpen (page_in b n) → (calls : List Call) → AllGiven calls → NoneMoves calls → (ci row column e : ℕ) →
    let start : State = record { buffer = b; long = n } in
    named_after_all calls start (λ j. false) (cell_tile (page_in b n) row column) ≡ false →
    meaning (page_of (after_all calls start)) ci row column e ≡ meaning (page_in b n) ci row column e
