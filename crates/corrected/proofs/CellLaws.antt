-- Req 03: how the cells of a corrected page read, by the map. Assumes nothing.
use Rattle.std.specs.Prelude.{Err, None}
use Prim.Native.Nat.{ℕ, ◌+◌, ◌≤◌, ◌<◌}
use native.Mathlib.Omega.{arith}
use mathlib.Core.Logic.{⊎_elim, by_cases}
use native.Mathlib.Decide.{dec_le}
use mathlib.Core.Path.{◌≡◌, refl, sym, ◌∙◌, ap}
use mathlib.Core.List.{List, []}
use mathlib.Core.Bool.{Bool, true, false}
use lib.ListN.{length, get_or}
use Rattle.wire.specs.Bytes.{byte_at, number_at, part}
use Rattle.wire.proofs.TestLaws.{fails}
use Rattle.wire.proofs.ByteLaws.{part_whole}
use Rattle.record.specs.Chain.{records}
use Rattle.header.specs.Fields.{element_count}
use Rattle.header.specs.Element.{element, cell_size, entries_read}
use Rattle.header.proofs.SameLaws.{element_same}
use Rattle.geometry.specs.Tiles.{cell_tile, cell_inside}
use Rattle.geometry.specs.Sizes.{element_bytes}
use Rattle.bodies.specs.TileRecord.{section_length, element_content_at}
use Rattle.answer.specs.declared.Refusal.TheVariants as refusal
use Rattle.answer.specs.declared.Cell.TheVariants as cell
use Rattle.check_header.specs.Judged.{SameJudged}
use Rattle.check_header.proofs.Judged.{judged_sym, header_fit, rows, columns, tile_rows_lem, tile_columns_lem, same_rest}
use Rattle.page_check.specs.Accepted.{Sound}
use Rattle.page_check.proofs.GivenLaws.{sound_range, sound_tile}
use Rattle.cells.specs.Asked.{in_grid}
use Rattle.cells.specs.Routes.{cell_by}
use Rattle.cells.specs.TileCells.{location_of, fill_of, is_packed, offset_in, cell_from, cell_in, cell_of}
use Rattle.cells.specs.Meaning.{meaning}
use Rattle.cells.proofs.CellLaws.{grid_means}
use Rattle.cells.proofs.ReadLaws.{sound_cells}
use Rattle.cells.proofs.DemandLaws.{demand_3}
use Rattle.tile_routes.proofs.WayLaws.{walk_finds, meant_is}
use Rattle.cells.proofs.ApartLaws.{offset_within}
use Rattle.alone.specs.Alone.{Moved, SameHeader, SameTile}
use Rattle.alone.proofs.MovedLaws.{offset_of, offset_number, offset_byte}
use Rattle.alone.proofs.HeaderLaws.{judged_header}
use Rattle.alone.proofs.TileLaws.{tile_alone}
use Rattle.page_laws.proofs.FrontLaws.{judged_trans}
use Rattle.page_laws.proofs.PageLaws.{sound_judged}
use Rattle.page_laws.proofs.TileRecordLaws.{BothAt, tile_stays}
use Rattle.correct.specs.Front.{page_in}
use Rattle.correct.specs.Storing.{tile_at}
use Rattle.page_laws.specs.Tiles.{contents_in, tiles_of, record_of_tile}
use Rattle.correct.specs.Calls.{page_of, after_all}
use Rattle.corrected.specs.Cells.{content_in_map, ReadsAs, Cells, CellsStay}
use Rattle.corrected.proofs.ContentLaws.{walked_is, Content, content_of_lem, content_moved, few_in, Stands, absent, stands, content_as}
use Rattle.corrected.proofs.SequenceLaws.{page_sound, sequence, sequence_stays}

-- a cell's meaning by the tile's record

meant_by : (s : List ℕ) (ci row column e : ℕ) → in_grid s row column e ≡ true → meaning s ci row column e ≡ cell_of s ci row column e (tile_at s (cell_tile s row column))
unfolding meaning cell_by tile_at
meant_by s ci row column e g = rw (g, walk_finds s (cell_tile s row column))

-- two pages whose headers say the same

grid_same : (s t : List ℕ) → SameJudged s t → Sound s → (row column e : ℕ) → in_grid s row column e ≡ in_grid t row column e
unfolding in_grid
grid_same s t j o row column e = rw (rows s t j, columns s t j, (judged_header s t (length s) j o.headed.header (few_in s o)).count)

module _ (s t : List ℕ) (o : Sound s) (q : Sound t) (j : SameJudged s t) (row column e : ℕ) (g : in_grid s row column e ≡ true) where
  header : SameHeader s t
  header = judged_header s t (length s) j o.headed.header (few_in s o)

  asked : e < element_count s
  asked = (grid_means s row column e g).1.1

  asked_too : e < element_count t
  asked_too = rw (← header.count) asked

  read_too : e < entries_read s
  unfolding entries_read
  read_too = omega (arith, few_in s o, asked)

  element_too : element s e ≡ element t e
  element_too =
      let f = header_fit s t j (length s) o.headed.header in
      element_same s t (same_rest s t j) e (entries_read s) read_too f.last

  grid_too : in_grid t row column e ≡ true
  grid_too = sym (grid_same s t j o row column e) ∙ g

  tile_too : cell_tile t row column ≡ cell_tile s row column
  unfolding cell_tile
  tile_too = rw (columns s t j, tile_rows_lem s t j, tile_columns_lem s t j)

  number_too : cell_inside s row column ≡ cell_inside t row column
  unfolding cell_inside
  number_too = rw (tile_rows_lem s t j, tile_columns_lem s t j)

  offset_too : offset_in s row column e ≡ offset_in t row column e
  unfolding offset_in
  offset_too = rw (number_too, element_too)

  location_too : location_of s row column ≡ location_of t row column
  unfolding location_of
  location_too = rw (tile_too, number_too)

  size_too : element_bytes s e ≡ element_bytes t e
  size_too = header.sizes e asked

  -- any content says the same by both
  said_too : (ci : ℕ) (b : List ℕ) (from l x place : ℕ) → cell_from t ci b from l x place row column e ≡ cell_from s ci b from l x place row column e
  unfolding cell_from
  said_too ci b from l x place =
      rw (← size_too, ← element_too, ← offset_too, ← number_too, ← location_too, ← tile_rows_lem s t j, ← tile_columns_lem s t j) refl

  meant_too : (ci : ℕ) → meaning t ci row column e ≡ cell_of t ci row column e (tile_at t (cell_tile s row column))
  meant_too ci = meant_by t ci row column e grid_too ∙ ap (λ (i : ℕ). cell_of t ci row column e (tile_at t i)) tile_too

  -- a cell lies in its element's content
  offset_inside : offset_in s row column e + cell_size (element s e).kind ≤ element_bytes s e
  offset_inside =
      let r = sound_range s (records s) o in
      offset_within s row column e (omega (arith, r.sides.tile_rows_lem.0)) (omega (arith, r.sides.tile_columns_lem.0))

  -- a tile that is not stored
  filled : (ci : ℕ) → tile_at t (cell_tile s row column) ≡ None → meaning t ci row column e ≡ fill_of s (location_of s row column) e
  unfolding fill_of
  filled ci h = meant_too ci ∙ ap (cell_of t ci row column e) h ∙ rw (← element_too, ← location_too) refl

  -- one that is, by its record and the element's content there
  module _ (c : List ℕ) (w : Stands t (cell_tile s row column) e c) where
    abbrev x : ℕ
    x = w.start

    long_is : length c ≡ section_length t x e
    long_is = ap length w.is ∙ w.content.long

    abbrev at : ℕ
    at = element_content_at t x e

    read_in : (ci : ℕ) → meaning t ci row column e ≡ cell_from t ci t at (section_length t x e) x at row column e
    unfolding cell_in
    read_in ci = meant_too ci ∙ ap (cell_of t ci row column e) w.found

    -- the bytes in the file and in the map: the first, all, and, where the content is whole, a cell's

    moved : Moved t at c 0 (section_length t x e)
    moved = content_moved w.content c w.is

    first_byte : byte_at t at ≡ byte_at c 0
    first_byte =
        let b : at + 0 ≡ at = omega arith in
        ap (byte_at t) (sym b) ∙ offset_byte moved (offset_of at 0 0) (omega (arith, w.content.some_bytes))

    all_bytes : part t at (length c) ≡ part c 0 (length c)
    all_bytes = ap (part t at) long_is ∙ sym w.content.is ∙ sym w.is ∙ sym (part_whole c)

    bits_in_lem :
        element_bytes s e ≤ length c →
        number_at (cell_size (element s e).kind) t (at + offset_in s row column e) ≡ number_at (cell_size (element s e).kind) c (0 + offset_in s row column e)
    bits_in_lem l = offset_number moved (offset_of at 0 (offset_in s row column e)) _ (omega (arith, offset_inside, long_is))

    cell_by_lem : (ci : ℕ) → meaning t ci row column e ≡ cell_from s ci c 0 (length c) x at row column e
    unfolding cell_from
    cell_by_lem ci = read_in ci ∙ said_too ci t at (section_length t x e) x at ∙ rw (← long_is) (go (is_packed s e (length c)) refl)
      where
        go : (b : Bool) → is_packed s e (length c) ≡ b → cell_from s ci t at (length c) x at row column e ≡ cell_from s ci c 0 (length c) x at row column e
        go true z = rw (z, first_byte, all_bytes) refl
        go false z =
            let l : element_bytes s e ≤ length c = by_cases (dec_le (length c + 1) (element_bytes s e)) (λ h. absurd (fails _ z (h, tt))) (λ h. omega arith) in
            rw (z, bits_in_lem l) refl

-- outside the grid

outside_is : (t : List ℕ) (ci row column e : ℕ) → in_grid t row column e ≡ false → meaning t ci row column e ≡ Err refusal.OutsideGrid
unfolding meaning cell_by
outside_is t ci row column e h = rw h

-- a tile whose record stays

module _ (s t : List ℕ) (o : Sound s) (q : Sound t) (j : SameJudged s t) (row column e : ℕ) (g : in_grid s row column e ≡ true) where
  self : SameJudged s s
  self = judged_trans j (judged_sym j)

  module _ (w : BothAt s t (cell_tile s row column)) where
    abbrev start : ℕ
    start = w.start

    abbrev first : List ℕ
    first = get_or (contents_in s start) e []

    content_first : Content s start e
    content_first = content_of_lem s o _ start e w.first (asked s t o q j row column e g)

    content_second : Content t start e
    content_second = content_of_lem t q _ start e w.second (asked_too s t o q j row column e g)

    says : SameTile s start t start
    says =
        let m = meant_is s _ start (sym (walked_is s (cell_tile s row column)) ∙ w.first) in
        tile_alone s start t start w.same (sound_tile s o m.among)

    place_same : element_content_at t start e ≡ element_content_at s start e
    place_same = omega (arith, says.places e)

    content_same : first ≡ get_or (contents_in t start) e []
    content_same = content_first.is ∙ says.contents e (asked s t o q j row column e g) ∙ sym content_second.is

    both_same : (ci : ℕ) → meaning t ci row column e ≡ meaning s ci row column e
    both_same ci =
        cell_by_lem s t o q j row column e g first (record { start = start; found = w.second; content = content_second; is = content_same }) ci
        ∙ ap (λ (a : ℕ). cell_from s ci first 0 (length first) start a row column e) place_same
        ∙ sym (cell_by_lem s s o o self row column e g first (record { start = start; found = w.first; content = content_first; is = refl }) ci)

  stays_same : (ci : ℕ) → record_of_tile t (cell_tile s row column) ≡ record_of_tile s (cell_tile s row column) → meaning t ci row column e ≡ meaning s ci row column e
  stays_same ci h =
      ⊎_elim (λ a. filled s t o q j row column e g ci a.1 ∙ sym (filled s s o o self row column e g ci a.0)) (λ w. both_same w ci)
      (tile_stays s t o q (cell_tile s row column) h)

module _ (s t : List ℕ) (o : Sound s) (q : Sound t) (j : SameJudged s t) (ci row column e : ℕ) where
  out : in_grid s row column e ≡ false → in_grid t row column e ≡ false
  out g = rw (grid_same s t j o row column e) at g

  reads_as : (tiles : ℕ → List (List ℕ)) → ((i : ℕ) → tiles_of t i ≡ tiles i) → ReadsAs s t tiles ci row column e
  unfolding content_in_map
  reads_as tiles f =
      let m = f (cell_tile s row column) in
      record {
        outside = λ g. outside_is t ci row column e (out g);
        fill = λ g h. filled s t o q j row column e g ci (absent t (cell_tile s row column) e (asked_too s t o q j row column e g) (m ∙ h));
        held =
            λ g h.
            let c = get_or (tiles (cell_tile s row column)) e [] in
            let w = stands t q (cell_tile s row column) e (asked_too s t o q j row column e g) c (ap (λ (r : List (List ℕ)). get_or r e []) (sym m)) (λ z. h (sym m ∙ z)) in
            record { start = w.start; found = w.found; reads = cell_by_lem s t o q j row column e g c w ci };
      }

  reads_same : record_of_tile t (cell_tile s row column) ≡ record_of_tile s (cell_tile s row column) → meaning t ci row column e ≡ meaning s ci row column e
  reads_same h = go (in_grid s row column e) refl
    where
      go : (b : Bool) → in_grid s row column e ≡ b → meaning t ci row column e ≡ meaning s ci row column e
      go true g = stays_same s t o q j row column e g ci h
      go false g = outside_is t ci row column e (out g) ∙ sym (outside_is s ci row column e g)

pub cells : Cells
cells b n v h calls g =
    let s = page_in b n in
    let k = sequence b n v h calls g in
    let t = page_of (after_all calls (record { buffer = b; long = n })) in
    let o = page_sound s h in
    let q = page_sound t k.page in
    let f = k.follows in
    record {
      routes = λ a ci. demand_3 t a ci;
      ways = λ ci. sound_cells t q ci;
      contents = λ tile e. content_as s t o q (sound_judged o f.header) tile e _ f.map_of;
      cells = λ ci row column e. reads_as s t o q (sound_judged o f.header) ci row column e _ f.map_of;
    }

pub cells_stay : CellsStay
cells_stay b n v h calls g z ci row column e m =
    let s = page_in b n in
    let k = sequence b n v h calls g in
    let t = page_of (after_all calls (record { buffer = b; long = n })) in
    let o = page_sound s h in
    reads_same s t o (page_sound t k.page) (sound_judged o k.follows.header) ci row column e
    ((sequence_stays b n v h calls g z).places.records (cell_tile s row column) m)
