-- A tile record as it is written: its length, and where its sections stand. Assumes nothing.
use Prim.Native.Nat.{ℕ, zero, suc, ◌+◌, ◌≤◌, ◌<◌}
use mathlib.Core.Path.{◌≡◌, refl, sym, ap, ◌∙◌}
use mathlib.Core.List.{List, ◌++◌}
use mathlib.Core.Bool.{true}
use mathlib.Core.Logic.{by_cases}
use native.Mathlib.Decide.{dec_le}
use native.Mathlib.Omega.{arith}
use lib.ListN.{length, length-append}
use Rattle.wire.specs.Tests.{sum_below}
use Rattle.wire.specs.Bytes.{bytes_of, part, largest_integer}
use Rattle.wire.proofs.TestLaws.{sum_each}
use Rattle.wire.proofs.ByteLaws.{bytes_length, part_length}
use Rattle.wire.proofs.PlaceLaws.{Placed, placed_first, placed_next}
use Rattle.record.specs.Record.{length_at, record_ok}
use Rattle.header.specs.Fields.{checksum_enabled, element_count}
use Rattle.header.specs.Element.{entries_read}
use Rattle.geometry.specs.Sizes.{stored_size, least_length, tile_length, element_bytes, tile_bytes, plain_tile_length}
use Rattle.written_records.specs.Pieces.{record_length, record_of, section}
use Rattle.written_records.specs.Tile.{sections, sections_of, plain_record, tile_record}
use Rattle.written_records.proofs.PieceLaws.{least_holds, record_length_lem, record_well, section_length_lem}

-- the stored sizes of the elements before e
abbrev pub stored_before : List ℕ → ℕ → ℕ
stored_before f e = sum_below e (λ d. stored_size (element_bytes f d))

-- the sections of the first n elements, where the cell bytes hold them
pub sections_length :
    (f : List ℕ) (n : ℕ) (c : List ℕ) → sum_below n (element_bytes f) ≤ length c →
    length (sections f n c) ≡ stored_before f n
unfolding sections sections_of sum_below
sections_length f zero c h = refl
sections_length f (suc n) c h =
    let u = element_bytes f n in
    let at = sum_below n (element_bytes f) in
    let a = length-append (sections f n c) (section (part c at u)) in
    let b = sections_length f n c (omega arith) in
    let d = section_length_lem (part c at u) in
    let e : length (part c at u) ≡ u = part_length c at u (omega arith) in
    let g : stored_size (length (part c at u)) ≡ stored_size u = ap stored_size e in
    omega (arith, a, b, d, g)

-- where the elements that are read are all of them, as in a front that passes
module _ (f : List ℕ) (all : entries_read f ≡ element_count f) where
  pub tile_sum : sum_below (element_count f) (element_bytes f) ≡ tile_bytes f
  unfolding tile_bytes
  tile_sum = ap (λ (n : ℕ). sum_below n (element_bytes f)) (sym all)

  -- an element's bytes are among the tile's
  pub element_within : (e : ℕ) → e < element_count f → sum_below e (element_bytes f) + element_bytes f e ≤ tile_bytes f
  element_within e h = omega (arith, sum_each (element_count f) (element_bytes f) e h, tile_sum)

  pub plain_is : plain_tile_length f ≡ least_length (12 + stored_before f (element_count f))
  unfolding plain_tile_length tile_length
  plain_is = ap (λ (n : ℕ). least_length (12 + stored_before f n)) all

  pub plain_holds : 16 + stored_before f (element_count f) ≤ plain_tile_length f
  plain_holds = omega (arith, plain_is, (least_holds (12 + stored_before f (element_count f))).0)

  -- the body of a tile record, and the record, which has the length that geometry gives

  pub tile_body_length : (i : ℕ) (c : List ℕ) → length c ≡ tile_bytes f → length (bytes_of 4 i ++ sections f (element_count f) c) ≡ 4 + stored_before f (element_count f)
  tile_body_length i c h =
      let a = sections_length f (element_count f) c (omega (arith, tile_sum)) in
      length-append (bytes_of 4 i) (sections f (element_count f) c) ∙ omega (arith, bytes_length 4 i)

  pub tile_length_lem : (i : ℕ) (c : List ℕ) → length c ≡ tile_bytes f → length (tile_record f i c) ≡ plain_tile_length f
  unfolding tile_record plain_record sections record_length
  tile_length_lem i c h =
      record_length_lem (checksum_enabled f) 2 (bytes_of 4 i ++ sections f (element_count f) c)
      ∙ ap least_length (omega (arith, tile_body_length i c h))
      ∙ sym plain_is

  -- it is a record by itself, and no byte more
  pub tile_well :
      plain_tile_length f ≤ largest_integer → (i : ℕ) (c : List ℕ) → length c ≡ tile_bytes f →
      (record_ok (tile_record f i c) 0 ≡ true) × (length_at (tile_record f i c) 0 ≡ length (tile_record f i c))
  unfolding tile_record plain_record sections
  tile_well fits i c h =
      let body = bytes_of 4 i ++ sections f (element_count f) c in
      let a : length (record_of (checksum_enabled f) 2 body) ≡ plain_tile_length f = tile_length_lem i c h in
      record_well (checksum_enabled f) 2 body (omega arith) (omega arith)

-- where the sections stand from x on, the one of element e stands behind those before it
module _ (f c : List ℕ) {s : List ℕ} {x : ℕ} where
  pub section_there :
      (n : ℕ) → sum_below n (element_bytes f) ≤ length c → Placed s x (sections f n c) → (e : ℕ) → e < n →
      Placed s (x + stored_before f e) (section (part c (sum_below e (element_bytes f)) (element_bytes f e)))
  unfolding sections sections_of sum_below
  section_there zero l h e k = absurd (omega arith)
  section_there (suc n) l h e k =
      let a = sections f n c in
      let b = section (part c (sum_below n (element_bytes f)) (element_bytes f n)) in
      let m : sum_below n (element_bytes f) ≤ length c = omega arith in
      by_cases (dec_le (e + 1) n) (λ i. section_there n m (placed_first a b h) e (omega arith))
      (λ i. let z : e ≡ n = omega arith in rw z (placed_next a b (sections_length f n c m) h))
