-- What a plain tile record says wherever it stands, and its rules where the header says the same. Assumes nothing.
use Prim.Native.Nat.{ℕ, zero, suc, ◌+◌, ◌*◌, ◌-◌, ◌≤◌, ◌<◌}
use mathlib.Core.Path.{◌≡◌, refl, sym, ap, ◌∙◌}
use mathlib.Core.List.{List, ◌++◌}
use mathlib.Core.Bool.{true}
use native.Mathlib.Omega.{arith}
use native.Mathlib.Numerals.{add-one}
use native.Mathlib.Nat.{mul-le-mul}
use lib.ListN.{length}
use Rattle.wire.specs.Tests.{sum_below}
use Rattle.wire.specs.Bytes.{bytes_of, part, u32_at, largest_integer}
use Rattle.wire.proofs.TestLaws.{yes, below_all, sum_within}
use Rattle.wire.proofs.ByteLaws.{bytes_length, part_length}
use Rattle.wire.proofs.ItemLaws.{advance_none}
use Rattle.wire.proofs.PlaceLaws.{Placed, placed_inner, placed_at, placed_first, placed_next, part_placed, placed_inside, placed_part, placed_value}
use Rattle.header.specs.Fields.{tile_rows, tile_columns, checksum_enabled, element_count}
use Rattle.header.specs.Element.{cell_size, element}
use Rattle.record.specs.Record.{length_at, type_at, record_limit}
use Rattle.geometry.specs.Tiles.{tile_count}
use Rattle.geometry.specs.Sizes.{uncompressed, stored_size, least_length, element_bytes, element_packing, tile_bytes, plain_tile_length}
use Rattle.geometry.proofs.SizeLaws.{size_range, packing_whole}
use Rattle.check_records.specs.Frame.{end_right}
use Rattle.check_records.specs.TileBody.{section_right, index_right, tile_right}
use Rattle.bodies.specs.TileRecord.{tile_index, section_end, section_at, section_length, element_content_at, tile_end}
use Rattle.check_records.specs.Faults.{body_right}
use Rattle.check_records.proofs.RecordLaws.{section_whole, body_tile}
use Rattle.bodies.proofs.SectionLaws.{section_next}
use Rattle.check_header.specs.Passed.{InRange}
use Rattle.written_records.specs.Pieces.{section}
use Rattle.written_records.specs.Tile.{sections, plain_record, tile_record}
use Rattle.written_records.proofs.TileLaws.{stored_before, tile_sum, element_within, plain_is, plain_holds, tile_length_lem, section_there}
use Rattle.written_records.proofs.PieceLaws.{record_body, placed_kind, placed_stated, section_states, bytes_there}
use Rattle.lay_down.proofs.FrontLaws.{plain_small}
use Rattle.alone.specs.Alone.{SameHeader}

-- the bytes of element e among a tile's cell bytes
abbrev bytes_given : List ℕ → List ℕ → ℕ → List ℕ
bytes_given f cs e = part cs (sum_below e (element_bytes f)) (element_bytes f e)

element_some : {f : List ℕ} → InRange f (length f) → (e : ℕ) → 1 ≤ element_bytes f e
unfolding element_bytes uncompressed
element_some {f} r e =
    let a : 1 * 1 ≤ tile_rows f * tile_columns f = mul-le-mul r.sides.tile_rows_lem.0 r.sides.tile_columns_lem.0 in
    let b : 1 ≤ cell_size (element f e).kind = omega (arith, size_range (element f e).kind) in
    mul-le-mul a b

-- the record of tile i with the cell bytes cs, made for the front or page f, stands in s from x on
pub record TileHere (f s cs : List ℕ) (i x : ℕ) : Type 0 where
  pub range : InRange f (length f)
  pub below : i < tile_count f
  pub long : length cs ≡ tile_bytes f
  pub here : Placed s x (tile_record f i cs)

module _ {f s cs : List ℕ} {i x : ℕ} (p : TileHere f s cs i x) where
  pub tile_typed : type_at s x ≡ 2
  unfolding tile_record plain_record sections
  tile_typed = placed_kind _ 2 _ p.here

  tile_size : length (tile_record f i cs) ≡ plain_tile_length f
  tile_size = tile_length_lem f p.range.all i cs p.long

  pub tile_short : length (tile_record f i cs) ≤ largest_integer
  tile_short = omega (arith, tile_size, plain_small f p.range)

  tile_long : length_at s x ≡ plain_tile_length f
  unfolding tile_record plain_record sections
  tile_long = placed_stated _ 2 _ p.here tile_short ∙ tile_size

  tile_inside : x + plain_tile_length f ≤ length s
  tile_inside = omega (arith, placed_inside p.here, tile_size)

  -- the body: the index, then the sections
  indexed : Placed s (x + 8) (bytes_of 4 i ++ sections f (element_count f) cs)
  unfolding tile_record plain_record sections
  indexed = placed_inner p.here (record_body (checksum_enabled f) 2 (bytes_of 4 i ++ sections f (element_count f) cs))

  pub tile_indexed : tile_index s x ≡ i
  unfolding tile_index
  tile_indexed = placed_value 4 i (placed_first (bytes_of 4 i) (sections f (element_count f) cs) indexed) (omega (arith, p.below, p.range.tiles))

  -- the section of element e
  section_here : (e : ℕ) → e < element_count f → Placed s (x + 12 + stored_before f e) (section (bytes_given f cs e))
  section_here e h =
      let n = placed_next (bytes_of 4 i) (sections f (element_count f) cs) (bytes_length 4 i) indexed in
      section_there f cs (element_count f) (omega (arith, tile_sum f p.range.all, p.long)) (placed_at n (omega arith)) e h

  given_length : (e : ℕ) → e < element_count f → length (bytes_given f cs e) ≡ element_bytes f e
  given_length e h = part_length cs _ _ (omega (arith, element_within f p.range.all e h, p.long))

  -- its bytes lie whole in the file
  pub tile_holds : (e : ℕ) → e < element_count f → x + 12 + stored_before f e + 4 + element_bytes f e ≤ length s
  tile_holds e h = omega (arith, placed_inside (bytes_there _ (section_here e h)), given_length e h)

  -- its length field, by its place
  stated_here : (e : ℕ) → e < element_count f → u32_at s (x + 12 + stored_before f e) ≡ element_bytes f e
  stated_here e h =
      let l = given_length e h in
      section_states _ (section_here e h) (omega (arith, element_within f p.range.all e h, p.range.tile_size)) ∙ l

  -- the sections end before the checksum
  limit_here : x + 12 + stored_before f (element_count f) ≤ record_limit s x
  unfolding record_limit
  limit_here = omega (arith, tile_inside, tile_long, plain_holds f p.range.all)

  pub tile_section : (e : ℕ) → e ≤ element_count f → section_at s x e ≡ x + 12 + stored_before f e
  unfolding section_at section_end sum_below
  tile_section zero h = advance_none _ _ (x + 12) ∙ omega arith
  tile_section (suc e) h =
      let q : section_at s x e ≡ x + 12 + stored_before f e = tile_section e (omega arith) in
      let l = sum_within (element_count f) (λ d. stored_size (element_bytes f d)) e (omega arith) in
      let n : section_at s x (suc e) ≡ section_end s (section_at s x e) = rw (← add-one e) (section_next s x e (omega (arith, limit_here))) in
      n ∙ rw (q, stated_here e h) (omega arith)

  pub tile_states : (e : ℕ) → e < element_count f → section_length s x e ≡ element_bytes f e
  unfolding section_length
  tile_states e h = rw (tile_section e (omega arith)) (stated_here e h)

  pub tile_bytes_lem :
      (e : ℕ) → e < element_count f → (o n : ℕ) → o + n ≤ element_bytes f e →
      part s (element_content_at s x e + o) n ≡ part cs (sum_below e (element_bytes f) + o) n
  unfolding element_content_at
  tile_bytes_lem e h o n l =
      let q = part_placed cs (sum_below e (element_bytes f)) (element_bytes f e) (omega (arith, element_within f p.range.all e h, p.long)) in
      let m : o + n ≤ length (bytes_given f cs e) = omega (arith, given_length e h) in
      rw (tile_section e (omega arith)) (placed_part (bytes_there _ (section_here e h)) o n m ∙ sym (placed_part q o n m))

  -- its rules

  module _ (h : SameHeader s f) where
    index_right_lem : index_right s x ≡ true
    unfolding index_right
    index_right_lem =
        let e = tile_indexed in
        sym (yes _ (omega (arith, p.below, p.range.tiles), (omega (arith, p.below, h.tiles), tt)))

    end_right_lem : end_right s x (tile_end s x) ≡ true
    unfolding end_right tile_end
    end_right_lem =
        let q : section_at s x (element_count s) ≡ x + 12 + stored_before f (element_count f) = rw h.count (tile_section (element_count f) (omega arith)) in
        let d : section_at s x (element_count s) - x ≡ 12 + stored_before f (element_count f) = omega arith in
        sym (yes _ (omega (arith, limit_here), (tile_long ∙ plain_is f p.range.all ∙ ap least_length (sym d), tt)))

    each_right : (e : ℕ) → e < element_count s → section_right s x e ≡ true
    unfolding element_packing section_length
    each_right e l =
        let d = tile_states e (rw (← h.count) l) in
        let q = h.sizes e l in
        let g = element_some p.range e in
        sym (section_whole s x e _ _ _ refl refl refl (sym (packing_whole _ _ (λ z. omega arith) (d ∙ sym q))))

    tile_right_lem : tile_right s x ≡ true
    unfolding tile_right
    tile_right_lem = sym (yes _ (index_right_lem, (end_right_lem, (below_all (element_count s) _ each_right, tt))))

    pub tile_body : body_right s x ≡ true
    tile_body = sym (body_tile s 2 x (length_at s x) (record { type_is = sym tile_typed; length_is = refl }) true refl (sym tile_right_lem))
