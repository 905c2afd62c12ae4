-- Two stored cells of a sound page are one cell, or share no byte. Assumes nothing.
use Rattle.std.specs.Prelude.{Err, None, Ok, Option, Result, Some}
use Prim.Native.Nat.{ℕ, ◌+◌, ◌*◌, ◌≤◌, ◌<◌}
use mathlib.Core.Path.{◌≡◌, refl, sym, ap, ◌∙◌}
use mathlib.Core.List.{List, Memᴰ}
use mathlib.Core.Logic.{◌⊎◌, inl, inr, ⊎_elim, by_cases}
use Rattle.std.specs.Prelude.{Option, Some, None}
use mathlib.Core.Bool.{Bool, true, false}
use native.Mathlib.Decide.{dec_le}
use native.Mathlib.Omega.{arith}
use Rattle.wire.proofs.TestLaws.{fails}
use Rattle.wire.proofs.ItemLaws.{item_within, items_apart}
use Rattle.answer.specs.declared.Refusal.{Refusal}
use Rattle.answer.specs.declared.Value.{Value}
use Rattle.answer.specs.declared.Location.{Location}
use Rattle.answer.specs.declared.Cell.{Cell}
use Rattle.answer.specs.declared.Cell.TheVariants.{Stored, Fill, Unpacked}
use Rattle.answer.specs.Answers.{cell_place}
use Rattle.header.specs.Fields.{grid_columns, tile_rows, tile_columns, element_count}
use Rattle.record.specs.Chain.{header_end, records, records_of}
use Rattle.header.specs.Element.{cell_size, element}
use Rattle.record.specs.Record.{length_at, record_limit}
use Rattle.record.proofs.ChainLaws.{whole_apart}
use Rattle.geometry.specs.Tiles.{cell_tile, cell_inside}
use Rattle.geometry.specs.Sizes.{uncompressed, cell_offset, element_bytes}
use Rattle.geometry.proofs.GridLaws.{inside_less, one_cell}
use Rattle.check_records.specs.TileBody.{tile_right}
use Rattle.bodies.specs.TileRecord.{tile_index, section_at, section_length, element_content_at}
use Rattle.bodies.proofs.SectionLaws.{section_least, section_holds, section_mono, section_next}
use Rattle.check_records.proofs.SectionLaws.{sections_end}
use Rattle.record.proofs.FindLaws.{of_type}
use Rattle.page_check.specs.Accepted.{Sound}
use Rattle.page_check.proofs.GivenLaws.{sound_range, sound_tile}
use Rattle.unpack.specs.Unpack.{cell_at}
use Rattle.cells.specs.Asked.{in_grid}
use Rattle.cells.specs.Demand3.{bytes_of_cell}
use Rattle.cells.specs.TileCells.{packed, unpackable, unpacked_in, packed_cell, cell_from, cell_in, offset_in, place_in, fill_of}
use Rattle.cells.specs.Meaning.{meaning}
use Rattle.tile_routes.specs.Ways.{meant}
use Rattle.cells.specs.Routes.{cell_by}
use Rattle.cells.proofs.CellLaws.{grid_means}
use Rattle.tile_routes.proofs.WayLaws.{meant_is}

-- the sections of a tile record

-- where an element's content lies: behind the record's start, up to the next section, which starts inside the record
pub record ContentExtent (s : List ℕ) (at e : ℕ) : Type 0 where
  pub behind : at ≤ element_content_at s at e
  pub own : section_at s at e ≤ element_content_at s at e
  pub next : element_content_at s at e + section_length s at e ≤ section_at s at (e + 1)
  pub inside : section_at s at (e + 1) < at + length_at s at

pub content_extent : (s : List ℕ) (at e : ℕ) → tile_right s at ≡ true → e < element_count s → ContentExtent s at e
unfolding element_content_at section_length record_limit
content_extent s at e t h =
    let z = sections_end s at t in
    let a = section_mono s at e (element_count s) (omega arith) in
    let b = section_mono s at (e + 1) (element_count s) (omega arith) in
    let n = section_next s at e (omega arith) in
    let k = section_holds s (section_at s at e) in
    let g = section_least s at e in
    record { behind = omega arith; own = omega arith; next = omega arith; inside = omega arith }

-- a cell that is stored: the tile record that has it, uncompressed, and its place there

pub record StoredAs (s : List ℕ) (row column e place : ℕ) : Type 0 where
  pub start : ℕ
  pub among : Memᴰ start (records_of s 2)
  pub index : tile_index s start ≡ cell_tile s row column
  pub whole : packed s start e ≡ false
  pub here : place ≡ place_in s start row column e
  pub column_in : column < grid_columns s
  pub element_in : e < element_count s

refused_not_stored : {C : Type 0} {r : Refusal} {v : Value} {p : ℕ} {t : Location} → Err r ≡ Ok (Stored v p t) → C
refused_not_stored q = let z : ◌≡◌ {A = ℕ} 0 1 = cc in absurd (omega arith)

fill_not_stored : {C : Type 0} {w v : Value} {p : ℕ} {t u : Location} → ◌≡◌ {A = Result Cell Refusal} (Ok (Fill w u)) (Ok (Stored v p t)) → C
fill_not_stored q = let z : ◌≡◌ {A = ℕ} 0 1 = cc in absurd (omega arith)

unpacked_not_stored : {C : Type 0} {w v : Value} {a p : ℕ} {t u : Location} → ◌≡◌ {A = Result Cell Refusal} (Ok (Unpacked w a u)) (Ok (Stored v p t)) → C
unpacked_not_stored q = let z : ◌≡◌ {A = ℕ} 0 1 = cc in absurd (omega arith)

packed_not_stored : {C : Type 0} (s : List ℕ) (ci x row column e : ℕ) (v : Value) (p : ℕ) (t : Location) → packed_cell s ci x row column e ≡ Ok (Stored v p t) → C
unfolding packed_cell unpackable unpacked_in
packed_not_stored {C = C} s ci x row column e v p t q = go (unpackable s ci x e) refl (cell_at (unpacked_in s x e) (cell_inside s row column)) refl
  where
    go : (b : Bool) → unpackable s ci x e ≡ b → (r : Option ℕ) → cell_at (unpacked_in s x e) (cell_inside s row column) ≡ r → C
    go false i r j = refused_not_stored (rw i at q)
    go true i (Some bits) j = unpacked_not_stored (rw (i, j) at q)
    go true i None j = refused_not_stored (rw (i, j) at q)

stored_in : (s : List ℕ) (ci x row column e place : ℕ) (v : Value) (t : Location) → cell_in s ci x row column e ≡ Ok (Stored v place t) → (packed s x e ≡ false) × (place ≡ place_in s x row column e)
unfolding cell_in cell_from packed packed_cell place_in
stored_in s ci x row column e place v t q = go (packed s x e) refl
  where
    go : (b : Bool) → packed s x e ≡ b → (packed s x e ≡ false) × (place ≡ place_in s x row column e)
    go true i = packed_not_stored s ci x row column e v place t (rw i at q)
    go false i = (i, sym (ap cell_place (rw i at q)))

pub stored_as : (s : List ℕ) (ci row column e place : ℕ) (v : Value) (w : Location) → meaning s ci row column e ≡ Ok (Stored v place w) → StoredAs s row column e place
unfolding meaning cell_by fill_of
stored_as s ci row column e place v w q = go (in_grid s row column e) refl (meant s (cell_tile s row column)) refl
  where
    go : (b : Bool) → in_grid s row column e ≡ b → (f : Option ℕ) → meant s (cell_tile s row column) ≡ f → StoredAs s row column e place
    go false i f j = refused_not_stored (rw i at q)
    go true i None j = fill_not_stored (rw (i, j) at q)
    go true i (Some x) j =
        let g = grid_means s row column e i in
        let t = meant_is s (cell_tile s row column) x j in
        let c = stored_in s ci x row column e place v w (rw (i, j) at q) in
        record { start = x; among = t.among; index = t.index; whole = c.0; here = c.1; column_in = g.1.0; element_in = g.1.1 }

-- its bytes lie in its element's uncompressed content

pub offset_within : (s : List ℕ) (row column e : ℕ) → 0 < tile_rows s → 0 < tile_columns s → offset_in s row column e + bytes_of_cell s e ≤ element_bytes s e
unfolding offset_in cell_offset element_bytes uncompressed cell_inside
offset_within s row column e p q =
    item_within (tile_rows s * tile_columns s) _ (cell_size (element s e).kind) (inside_less (tile_rows s) (tile_columns s) row column p q)

pub whole_least : (s : List ℕ) (x e : ℕ) → packed s x e ≡ false → element_bytes s e ≤ section_length s x e
unfolding packed
whole_least s x e q =
    by_cases (dec_le (section_length s x e + 1) (element_bytes s e)) (λ h. absurd (fails _ q (h, tt))) (λ h. omega arith)

-- where a stored cell lies in its tile record, whose start is x
pub record CellExtent (s : List ℕ) (x e place : ℕ) : Type 0 where
  pub behind : x ≤ place
  pub inside : place + bytes_of_cell s e ≤ x + length_at s x
  pub own : section_at s x e ≤ place
  pub next : place + bytes_of_cell s e ≤ section_at s x (e + 1)

pub cell_extent : (s : List ℕ) → Sound s → (row column e place : ℕ) (c : StoredAs s row column e place) → CellExtent s c.start e place
unfolding place_in
cell_extent s o row column e place c =
    let r = sound_range s (records s) o in
    let t = content_extent s c.start e (sound_tile s o c.among) c.element_in in
    let w = offset_within s row column e (omega (arith, r.sides.tile_rows_lem.0)) (omega (arith, r.sides.tile_columns_lem.0)) in
    let l = whole_least s c.start e c.whole in
    let h : place ≡ element_content_at s c.start e + offset_in s row column e = c.here in
    record {
      behind = omega (arith, t.behind);
      inside = omega (arith, t.next, t.inside);
      own = omega (arith, t.own);
      next = omega (arith, t.next);
    }

-- two of them

module _ (s : List ℕ) (o : Sound s) (row column e place : ℕ) (c : StoredAs s row column e place) (row2 column2 e2 place2 : ℕ) (d : StoredAs s row2 column2 e2 place2) where
  abbrev Apart : Type 0
  Apart =
      ((row ≡ row2) × ((column ≡ column2) × (e ≡ e2)))
      ⊎ ((place + bytes_of_cell s e ≤ place2) ⊎ (place2 + bytes_of_cell s e2 ≤ place))

  -- in one element of one record: by their numbers inside the tile
  same_element : c.start ≡ d.start → e ≡ e2 → Apart
  unfolding place_in offset_in cell_offset cell_tile cell_inside
  same_element p q =
      let z = cell_size (element s e).kind in
      let r = sound_range s (records s) o in
      let a : place ≡ element_content_at s c.start e + cell_inside s row column * z = c.here in
      let b : place2 ≡ element_content_at s c.start e + cell_inside s row2 column2 * z = rw (p, q) d.here in
      let k : cell_tile s row column ≡ cell_tile s row2 column2 = sym c.index ∙ ap (tile_index s) p ∙ d.index in
      let u : bytes_of_cell s e2 ≡ z = rw q in
      ⊎_elim
      (λ i.
      let x = one_cell (grid_columns s) (tile_rows s) (tile_columns s) row column row2 column2 (omega (arith, r.sides.tile_columns_lem.0)) c.column_in d.column_in k i in
      inl (x.0, (x.1, q)))
      (λ i. inr (⊎_elim (λ j. inl (omega arith)) (λ j. inr (omega arith)) i))
      (items_apart (cell_inside s row column) (cell_inside s row2 column2) z)

  -- in one record: by their sections
  same_record : c.start ≡ d.start → Apart
  same_record p =
      let a = cell_extent s o row column e place c in
      let b : CellExtent s c.start e2 place2 = rw p (cell_extent s o row2 column2 e2 place2 d) in
      by_cases (dec_le (e + 1) e2)
      (λ h. let m = section_mono s c.start (e + 1) e2 h in inr (inl (omega (arith, a.next, b.own))))
      (λ h.
      by_cases (dec_le (e2 + 1) e)
      (λ k. let m = section_mono s c.start (e2 + 1) e k in inr (inr (omega (arith, b.next, a.own))))
      (λ k. same_element p (omega arith)))

  stored_apart : Apart
  stored_apart =
      let a = cell_extent s o row column e place c in
      let b = cell_extent s o row2 column2 e2 place2 d in
      ⊎_elim same_record
      (λ i.
      inr
      (⊎_elim (λ j. inl (omega (arith, a.inside, b.behind))) (λ j. inr (omega (arith, b.inside, a.behind))) i))
      (whole_apart s (header_end s) (records s) o.chain (of_type s 2 c.among).0 (of_type s 2 d.among).0)

pub cells_apart :
    (s : List ℕ) → Sound s → (ci row column e place : ℕ) (v : Value) (w : Location) (row2 column2 e2 place2 : ℕ) (v2 : Value) (w2 : Location) →
    meaning s ci row column e ≡ Ok (Stored v place w) → meaning s ci row2 column2 e2 ≡ Ok (Stored v2 place2 w2) →
    ((row ≡ row2) × ((column ≡ column2) × (e ≡ e2))) ⊎ ((place + bytes_of_cell s e ≤ place2) ⊎ (place2 + bytes_of_cell s e2 ≤ place))
cells_apart s o ci row column e place v w row2 column2 e2 place2 v2 w2 p q =
    stored_apart s o row column e place (stored_as s ci row column e place v w p) row2 column2 e2 place2 (stored_as s ci row2 column2 e2 place2 v2 w2 q)
