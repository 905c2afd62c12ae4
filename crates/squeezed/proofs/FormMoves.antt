-- A tile directory that has moved, with its references changed. Assumes nothing.
use Prim.Native.Nat.{ℕ, ◌+◌, ◌*◌, ◌-◌, ◌/◌, ◌%◌, ◌≤◌, ◌<◌}
use mathlib.Core.Path.{◌≡◌, refl, sym, ap, ◌∙◌}
use mathlib.Core.Logic.{◌⊎◌, inl, inr}
use mathlib.Core.List.{List, map}
use mathlib.Core.Bool.{Bool, true, false}
use native.Mathlib.Omega.{arith}
use lib.ListN.{length}
use lib.Dec.{eqb}
use borrow.Author.Tests.{eqb-true, eq-eqb}
use Rattle.wire.specs.Pick.{pick}
use Rattle.wire.specs.Bytes.{Same, number_at, number, byte_at, part, bytes_of}
use Rattle.wire.proofs.TestLaws.{means, yes}
use Rattle.wire.proofs.ByteLaws.{number_same, number_bytes, number_one, part_same, same_trans, bytes_length}
use Rattle.wire.proofs.ListLaws.{every_member, member_every, some_member, member_some}
use Rattle.wire.proofs.PlaceLaws.{Placed, placed_inside, placed_part, placed_number}
use Rattle.record.specs.Record.{length_at, content_at, record_limit, padded}
use Rattle.record.specs.Chain.{records_of}
use Rattle.header.specs.Fields.{checksum_enabled, tile_directory_reference}
use Rattle.geometry.specs.Tiles.{tiles_across, tiles_down, tiles_in, tile_count}
use Rattle.bodies.specs.TileDirectory.{tile_directory_at, directory_format, standard_references, first_row, first_column, listed_rows, listed_columns, reference_count, reference_size, reference_at, references_end, tile_reference}
use Rattle.check_header.specs.Judged.{SameJudged}
use Rattle.check_directory.specs.References.{refers_to, no_other}
use Rattle.check_directory.specs.TileRules.{form_right, rectangle_right, tiles_listed, tiles_only, tile_directory_right}
use Rattle.check_directory.proofs.OnlyLaws.{grid_reference}
use Rattle.pieces.specs.Edits.{resealed, reference_bytes}
use Rattle.writable.specs.Writable.{directory_full}
use Rattle.writable.proofs.OpenLaws.{full_first}
use Rattle.page_laws.proofs.ListedLaws.{judged_across, judged_down, judged_count}
use Rattle.correct.specs.Renamed.{put_each, reference_in, reference_then, tiles_renamed}
use Rattle.squeezed.proofs.TileMoves.{member_map, map_member}
use Rattle.squeezed.proofs.PutLaws.{each_length, each_beside, each_there, resealed_same, resealed_length}

-- the tile directory r of page s, at d, stands in t at e, renamed; new contents are multiples of 8 below the ceiling
pub record FormMoves (s t r : List ℕ) (d e : ℕ) (to named : ℕ → ℕ) : Type 0 where
  pub judged : SameJudged s t
  pub first : Placed s d r
  pub second : Placed t e (tiles_renamed s named r)
  pub refers : tile_directory_reference s ≡ content_at d
  pub refers_too : tile_directory_reference t ≡ content_at e
  pub there : to d ≡ e
  pub directories : records_of t 5 ≡ map to (records_of s 5)
  pub stated : length_at r 0 ≡ length r
  pub least : 16 ≤ length r
  pub eights : (c : ℕ) → named c % 8 ≡ 0
  pub small : (c : ℕ) → named c < 4294967296
  pub right : tile_directory_right s ≡ true
  pub full : directory_full s ≡ true

module _ {s t r : List ℕ} {d e : ℕ} {to named : ℕ → ℕ} (h : FormMoves s t r d e to named) where
  abbrev q : List ℕ
  q = tiles_renamed s named r

  abbrev w : ℕ
  w = reference_size s

  at_s : tile_directory_at s ≡ d
  unfolding tile_directory_at
  at_s = omega (arith, h.refers)

  at_t : tile_directory_at t ≡ e
  unfolding tile_directory_at
  at_t = omega (arith, h.refers_too)

  -- the old directory

  length_s : length_at s d ≡ length r
  length_s = let z : d + 0 ≡ d = omega arith in ap (λ (i : ℕ). length_at s i) (sym z) ∙ placed_number h.first 4 0 (omega (arith, h.least)) ∙ h.stated

  limit_s : record_limit s d ≡ d + (length r - 4)
  unfolding record_limit
  limit_s = omega (arith, length_s, placed_inside h.first, h.least)

  ends : references_end s ≤ d + (length r - 4)
  unfolding tile_directory_right padded
  ends = rw (at_s, limit_s) at (means _ (means _ h.right).1.1.1.1.0).0

  ends_is : references_end s ≡ d + 32 + reference_count s * w
  unfolding references_end
  ends_is = ap (λ (i : ℕ). i + 32 + reference_count s * reference_size s) at_s

  wide : (w ≡ 8) ⊎ (w ≡ 4)
  unfolding reference_size
  wide = go (eqb (standard_references s (tile_directory_at s)) 1)
    where
      go : (b : Bool) → (◌≡◌ {A = ℕ} (pick b 8 4) 8) ⊎ (◌≡◌ {A = ℕ} (pick b 8 4) 4)
      go true = inl refl
      go false = inr refl

  abbrev n : ℕ
  n = reference_count s

  -- reference i lies in it, and the next ones behind it
  in_record : (i : ℕ) → i < n → reference_in s i + w + 4 ≤ length r
  in_record i l = go w wide ends ends_is
    where
      go : (w : ℕ) → (w ≡ 8) ⊎ (w ≡ 4) → references_end s ≤ d + (length r - 4) → references_end s ≡ d + 32 + n * w → 32 + w * i + w + 4 ≤ length r
      go w (inl z) a b = let c : references_end s ≡ d + 32 + n * 8 = rw z at b in rw z (omega (arith, h.least))
      go w (inr z) a b = let c : references_end s ≡ d + 32 + n * 4 = rw z at b in rw z (omega (arith, h.least))

  order : (i j : ℕ) → i < j → reference_in s i + w ≤ reference_in s j
  order i j l = go w wide
    where
      go : (w : ℕ) → (w ≡ 8) ⊎ (w ≡ 4) → 32 + w * i + w ≤ 32 + w * j
      go w (inl z) = rw z (omega arith)
      go w (inr z) = rw z (omega arith)

  -- the new one

  then_long : (i : ℕ) → length (reference_then s named i) ≡ w
  unfolding reference_bytes
  then_long i = bytes_length w _

  put_long : length (put_each (reference_in s) (reference_then s named) n r) ≡ length r
  put_long = each_length (reference_in s) (reference_then s named) r n

  q_long : length q ≡ length r
  unfolding tiles_renamed
  q_long = resealed_length (checksum_enabled s) _ ∙ put_long

  rest_long : 36 ≤ length r
  rest_long = omega (arith, ends, ends_is, h.least)

  head : Same r q 0 32
  unfolding tiles_renamed
  head =
      same_trans (each_beside (reference_in s) (reference_then s named) r n 0 32 (omega (arith, rest_long)) (λ i l. inl (omega arith)))
      (resealed_same (checksum_enabled s) _ (omega (arith, h.least, put_long)) 0 32 (omega (arith, rest_long, put_long)))

  number_there : (k i : ℕ) → i + k ≤ 32 → number_at k t (e + i) ≡ number_at k s (d + i)
  number_there k i l =
      let m = rest_long in
      placed_number h.second k i (omega (arith, q_long)) ∙ sym (number_same head k i (omega arith) l) ∙ sym (placed_number h.first k i (omega arith))

  byte_there : (i : ℕ) → i < 32 → byte_at t (e + i) ≡ byte_at s (d + i)
  byte_there i l = number_one t (e + i) ∙ number_there 1 i (omega arith) ∙ sym (number_one s (d + i))

  -- its fields

  standard_same : standard_references t (tile_directory_at t) ≡ standard_references s (tile_directory_at s)
  standard_same = rw (at_s, at_t) (byte_there 9 (omega arith))

  rows_same : listed_rows t (tile_directory_at t) ≡ listed_rows s (tile_directory_at s)
  rows_same = rw (at_s, at_t) (number_there 4 24 (omega arith))

  columns_same : listed_columns t (tile_directory_at t) ≡ listed_columns s (tile_directory_at s)
  columns_same = rw (at_s, at_t) (number_there 4 28 (omega arith))

  row_same : first_row t (tile_directory_at t) ≡ first_row s (tile_directory_at s)
  row_same = rw (at_s, at_t) (number_there 4 16 (omega arith))

  column_same : first_column t (tile_directory_at t) ≡ first_column s (tile_directory_at s)
  column_same = rw (at_s, at_t) (number_there 4 20 (omega arith))

  length_t : length_at t e ≡ length r
  length_t = let z : e + 0 ≡ e = omega arith in let y : d + 0 ≡ d = omega arith in rw (z, y) at (number_there 4 0 (omega arith)) ∙ length_s

  limit_t : record_limit t e ≡ e + (length r - 4)
  unfolding record_limit
  limit_t = omega (arith, length_t, placed_inside h.second, h.least, q_long)

  pub count_same : tile_count s ≡ tile_count t
  count_same = judged_count s t h.judged

  across_same : tiles_across s ≡ tiles_across t
  across_same = judged_across s t h.judged

  down_same : tiles_down s ≡ tiles_down t
  down_same = judged_down s t h.judged

  size_same : reference_size t ≡ w
  unfolding reference_size
  size_same = rw standard_same

  -- its rules but for the references

  form_same : form_right t ≡ form_right s
  unfolding form_right
  form_same =
      let a : directory_format t (tile_directory_at t) ≡ directory_format s (tile_directory_at s) = rw (at_s, at_t) (byte_there 8 (omega arith)) in
      rw (a, standard_same)

  rectangle_same : rectangle_right t ≡ rectangle_right s
  unfolding rectangle_right
  rectangle_same = rw (row_same, column_same, rows_same, columns_same, down_same, across_same)

  pub full_same : directory_full t ≡ true
  unfolding directory_full
  full_same = let f = means _ h.full in sym (yes _ (rows_same ∙ f.0 ∙ down_same, (columns_same ∙ f.1.0 ∙ across_same, tt)))

  end_t : references_end t ≡ e + 32 + reference_count s * w
  unfolding references_end
  end_t = rw (rows_same, columns_same, size_same, at_t)

  padded_same : padded t (tile_directory_at t) (references_end t) ≡ true
  unfolding tile_directory_right padded
  padded_same =
      let a = means _ (means _ h.right).1.1.1.1.0 in
      let x : record_limit s (tile_directory_at s) ≡ d + (length r - 4) = ap (record_limit s) at_s ∙ limit_s in
      let y : record_limit t (tile_directory_at t) ≡ e + (length r - 4) = ap (record_limit t) at_t ∙ limit_t in
      let z : references_end t ≡ e + 32 + reference_count s * w = end_t in
      let b = ends_is in
      let u = a.0 in
      let v = a.1.0 in
      sym (yes _ (omega arith, (omega arith, tt)))

  refers_t : refers_to t 5 (tile_directory_reference t) ≡ true
  unfolding refers_to tile_directory_right
  refers_t =
      some_member _ _ _ (means _ h.right).0
      (λ x m z.
      let k : content_at x ≡ tile_directory_reference s = eqb-true (content_at x) (tile_directory_reference s) z in
      let y : x ≡ d = omega (arith, k, h.refers) in
      rw h.directories (member_some _ _ (map_member to (records_of s 5) m) (eq-eqb _ _ (ap (λ (i : ℕ). content_at (to i)) y ∙ ap content_at h.there ∙ sym h.refers_too))))

  other_t : no_other t 5 (tile_directory_reference t) ≡ true
  unfolding no_other tile_directory_right
  other_t =
      rw h.directories
      (member_every _ _
      (λ y m.
      member_map to (records_of s 5) m
      (λ x i z.
      let k : content_at x ≡ tile_directory_reference s = eqb-true (content_at x) (tile_directory_reference s) (every_member _ _ (means _ h.right).1.0 i) in
      let u : x ≡ d = omega (arith, k, h.refers) in
      eq-eqb _ _ (ap content_at (z ∙ ap to u ∙ h.there) ∙ sym h.refers_too))))

  pub form_moved : tiles_listed t ≡ true → tiles_only t ≡ true → tile_directory_right t ≡ true
  unfolding tile_directory_right
  form_moved listed only =
      let a = means _ h.right in
      sym (yes _ (refers_t, (other_t, (form_same ∙ a.1.1.0, (rectangle_same ∙ a.1.1.1.0, (padded_same, (listed, (only, tt))))))))

  -- its references

  field : (i : ℕ) → i < n → part q (reference_in s i) w ≡ reference_then s named i
  unfolding tiles_renamed
  field i l =
      let g = in_record i l in
      let F = put_each (reference_in s) (reference_then s named) n r in
      let m : Same F (resealed (checksum_enabled s) F) (reference_in s i) (reference_in s i + w) =
      resealed_same (checksum_enabled s) F (omega (arith, h.least, put_long)) (reference_in s i) (reference_in s i + w) (omega (arith, put_long)) in
      sym (part_same m (reference_in s i) w (omega arith) (omega arith))
      ∙ ap (part F (reference_in s i)) (sym (then_long i))
      ∙ each_there (reference_in s) (reference_then s named) r n i l (omega (arith, then_long i)) (λ j a b. omega (arith, order i j a, then_long i))

  there_is : (i : ℕ) → i < n → part t (e + reference_in s i) w ≡ reference_then s named i
  there_is i l = placed_part h.second (reference_in s i) w (omega (arith, in_record i l, q_long)) ∙ field i l

  reference_moved : (i : ℕ) → i < n → reference_at t e i ≡ named (reference_at s d i)
  unfolding reference_at number_at reference_bytes reference_size
  reference_moved i l = go (eqb (standard_references s (tile_directory_at s)) 1) refl (there_is i l)
    where
      go :
          (b : Bool) → eqb (standard_references s (tile_directory_at s)) 1 ≡ b →
          part t (e + (32 + pick b 8 4 * i)) (pick b 8 4)
          ≡ bytes_of (pick b 8 4) (pick (eqb (pick b 8 4) 8) (named (reference_at s (tile_directory_at s) i)) (named (reference_at s (tile_directory_at s) i) / 8)) →
          pick (eqb (standard_references t e) 1) (number (part t (e + 32 + 8 * i) 8)) (number (part t (e + 32 + 4 * i) 4) * 8) ≡ named (reference_at s d i)
      go true z y =
          let c = named (reference_at s (tile_directory_at s) i) in
          let a : e + 32 + 8 * i ≡ e + (32 + 8 * i) = omega arith in
          let g : eqb (standard_references t e) 1 ≡ true = ap (λ (x : ℕ). eqb x 1) (rw at_t at standard_same) ∙ z in
          let x : number (part t (e + (32 + 8 * i)) 8) ≡ c = ap number y ∙ number_bytes 8 c (omega (arith, h.small (reference_at s (tile_directory_at s) i))) in
          rw (g, a, x) (ap (λ (j : ℕ). named (reference_at s j i)) at_s)
      go false z y =
          let c = named (reference_at s (tile_directory_at s) i) in
          let a : e + 32 + 4 * i ≡ e + (32 + 4 * i) = omega arith in
          let g : eqb (standard_references t e) 1 ≡ false = ap (λ (x : ℕ). eqb x 1) (rw at_t at standard_same) ∙ z in
          let x : number (part t (e + (32 + 4 * i)) 4) ≡ c / 8 = ap number y ∙ number_bytes 4 (c / 8) (omega (arith, h.small (reference_at s (tile_directory_at s) i))) in
          let m : c / 8 * 8 ≡ c = omega (arith, h.eights (reference_at s (tile_directory_at s) i)) in
          rw (g, a, x, m) (ap (λ (j : ℕ). named (reference_at s j i)) at_s)

  sides : (listed_rows s (tile_directory_at s) ≡ tiles_down s) × (listed_columns s (tile_directory_at s) ≡ tiles_across s)
  unfolding directory_full
  sides = let a = means _ h.full in (a.0, a.1.0)

  count_is : n ≡ tile_count s
  unfolding tile_count tiles_in tiles_down tiles_across
  count_is = rw (sides.0, sides.1)

  pub reference_same : (i : ℕ) → i < tile_count s → tile_reference t i ≡ named (tile_reference s i)
  reference_same i l =
      let z = full_first s h.right h.full in
      grid_reference t (row_same ∙ z.0) (column_same ∙ z.1) (rows_same ∙ sides.0 ∙ down_same) (columns_same ∙ sides.1 ∙ across_same) i (omega (arith, count_same))
      ∙ ap (λ (x : ℕ). reference_at t x i) at_t
      ∙ reference_moved i (omega (arith, count_is))
      ∙ ap named (ap (λ (x : ℕ). reference_at s x i) (sym at_s) ∙ sym (grid_reference s z.0 z.1 sides.0 sides.1 i l))
