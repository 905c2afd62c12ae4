-- Stage 8 of a tile record that stands at two places, and what it holds. Assumes nothing.
use Prim.Native.Nat.{ℕ, ◌+◌, ◌-◌, ◌≤◌, ◌<◌}
use mathlib.Core.Path.{◌≡◌, refl, sym, ap, ◌∙◌}
use mathlib.Core.List.{List}
use mathlib.Core.Bool.{true}
use native.Mathlib.Omega.{arith}
use Rattle.wire.specs.Tests.{all_below}
use Rattle.wire.specs.Bytes.{u32_at, part}
use Rattle.wire.proofs.TestLaws.{means, yes, below_same}
use Rattle.record.specs.Record.{length_at, record_limit}
use Rattle.header.specs.Fields.{element_count}
use Rattle.geometry.specs.Sizes.{element_packing, stored_size}
use Rattle.bodies.specs.TileRecord.{tile_index, section_end, section_at, section_length, element_content_at, tile_end}
use Rattle.bodies.proofs.SectionLaws.{section_holds, section_mono, section_next}
use Rattle.check_records.specs.TileBody.{section_packing, section_right, index_right, tile_right}
use Rattle.check_records.proofs.SectionLaws.{sections_end}
use Rattle.pieces.proofs.MoveLaws.{Offset, advance_moved}
use Rattle.alone.specs.Alone.{SameRecord, SameHeader, TileAlone}
use Rattle.alone.proofs.MovedLaws.{offset_of, offset_add, offset_far, here, limit_first, limit_second, end_to, offset_part, offset_number}

module _ {s : List ℕ} {x : ℕ} {t : List ℕ} {y : ℕ} (r : SameRecord s x t y) where
  pub index_same : tile_index s x ≡ tile_index t y
  unfolding tile_index
  index_same = offset_number r.moved (here r 8) 4 (omega (arith, r.long))

  section_moved : (i : ℕ) → i ≤ length_at s x - 4 → Offset (section_end s (x + i)) (section_end t (y + i)) x y
  unfolding section_end
  section_moved i h =
      offset_add (offset_of x y i) (ap stored_size (offset_number r.moved (offset_of x y i) 4 (omega (arith, r.long))))

  -- each section starts as far behind the record's start, also one that is not read
  pub sections_moved : (e : ℕ) → Offset (section_at s x e) (section_at t y e) x y
  unfolding section_at
  sections_moved e =
      rw (limit_first r, limit_second r) (advance_moved (section_end s) (section_end t) x y (length_at s x - 4) section_moved e 12)

  -- the length of one that starts by the checksum
  pub section_length_same : (e : ℕ) → section_at s x e ≤ record_limit s x → section_length s x e ≡ section_length t y e
  unfolding section_length
  section_length_same e h = offset_number r.moved (sections_moved e) 4 (omega (arith, r.long, limit_first r))

  section_within : tile_right s x ≡ true → (e : ℕ) → e ≤ element_count s → section_at s x e ≤ record_limit s x
  section_within k e h = omega (arith, section_mono s x e (element_count s) h, sections_end s x k)

  index_right_lem : SameHeader s t → index_right s x ≡ index_right t y
  unfolding index_right
  index_right_lem h = rw (index_same, h.tiles)

  section_right_lem : SameHeader s t → tile_right s x ≡ true → (e : ℕ) → e < element_count s → section_right s x e ≡ section_right t y e
  unfolding section_right section_packing element_packing
  section_right_lem h k e l = rw (section_length_same e (section_within k e (omega arith)), h.sizes e l)

  tile_end_lem : SameHeader s t → Offset (tile_end s x) (tile_end t y) x y
  unfolding tile_end
  tile_end_lem h = rw (← h.count) (sections_moved (element_count s))

  pub tile_to : SameHeader s t → tile_right s x ≡ true → tile_right t y ≡ true
  unfolding tile_right
  tile_to h k =
      let a = means _ k in
      let b : all_below (element_count s) (section_right s x) ≡ all_below (element_count t) (section_right t y) =
      below_same (element_count s) (section_right s x) (section_right t y) (section_right_lem h k) ∙ ap (λ (n : ℕ). all_below n (section_right t y)) h.count in
      sym (yes _ (sym (index_right_lem h) ∙ a.0, (end_to r (tile_end_lem h) a.1.0, (sym b ∙ a.1.1.0, tt))))

  -- what it holds
  contents_same :
      tile_right s x ≡ true → (e : ℕ) → e < element_count s →
      part s (element_content_at s x e) (section_length s x e) ≡ part t (element_content_at t y e) (section_length t y e)
  unfolding element_content_at section_length
  contents_same k e h =
      let a = section_within k e (omega arith) in
      let b = section_within k (e + 1) (omega arith) in
      let c = section_next s x e a in
      let d = section_holds s (section_at s x e) in
      offset_part r.moved (offset_add (sections_moved e) refl) (u32_at s (section_at s x e)) (omega (arith, r.long, limit_first r))
      ∙ ap (part t (section_at t y e + 4)) (section_length_same e a)

  places_same : (e : ℕ) → x + element_content_at t y e ≡ y + element_content_at s x e
  unfolding element_content_at
  places_same e = offset_far (offset_add (sections_moved e) {d = 4} {e = 4} refl)

pub tile_alone : TileAlone
tile_alone s x t y r k =
    record {
      index = index_same r;
      lengths = λ e h. section_length_same r e (section_within r k e (omega arith));
      places = places_same r;
      contents = contents_same r k;
    }
