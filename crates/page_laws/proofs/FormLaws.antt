-- The form of a tile directory: its rules where its head stays, whatever its references are. Assumes nothing.
use Prim.Native.Nat.{ℕ, ◌+◌, ◌*◌, ◌-◌, ◌/◌, ◌%◌, ◌≤◌, ◌<◌}
use mathlib.Core.Path.{◌≡◌, refl, sym, ap, ◌∙◌}
use mathlib.Core.List.{List}
use mathlib.Core.Bool.{Bool, true, false}
use native.Mathlib.Omega.{arith}
use lib.ListN.{length}
use lib.Dec.{eqb}
use Rattle.wire.specs.Pick.{pick}
use Rattle.wire.specs.Bytes.{Same, number_at, byte_at, u32_at, u64_at}
use Rattle.wire.proofs.TestLaws.{means, yes}
use Rattle.wire.proofs.ByteLaws.{number_same, byte_same}
use Rattle.record.specs.Record.{length_at, content_at, record_limit, padded}
use Rattle.record.specs.Types.{tile_directory_type}
use Rattle.record.specs.Chain.{records_of}
use Rattle.header.specs.Fields.{tile_directory_reference}
use Rattle.geometry.specs.Tiles.{tiles_across, tiles_down, tiles_in, tile_count}
use Rattle.bodies.specs.TileDirectory.{tile_directory_at, directory_format, standard_references, first_row, first_column, listed_rows, listed_columns, reference_count, reference_size, reference_at, references_end, tile_reference}
use Rattle.check_header.specs.Judged.{SameJudged}
use Rattle.check_directory.specs.References.{refers_to, no_other}
use Rattle.check_directory.specs.TileRules.{form_right, rectangle_right, tiles_listed, tiles_only, tile_directory_right}
use Rattle.check_directory.specs.Correspondence.{OneToOne}
use Rattle.check_directory.proofs.OnlyLaws.{grid_reference}
use Rattle.check_directory.proofs.CorrespondLaws.{one_to_one}
use Rattle.writable.specs.Writable.{directory_full}
use Rattle.writable.proofs.OpenLaws.{full_first}
use Rattle.page_laws.proofs.ListedLaws.{judged_across, judged_down, judged_count}

-- a directory that is right holds its fields
pub directory_room : (s : List ℕ) → tile_directory_right s ≡ true → 36 ≤ length_at s (tile_directory_at s)
unfolding tile_directory_right padded record_limit references_end
directory_room s right = omega (arith, (means _ (means _ right).1.1.1.1.0).0)

-- two files whose headers agree in what is judged and in the tile directory, which starts at d and is whole in both; its fields stay,
-- and so do the places of all tile directories
pub record SameForm (s t : List ℕ) (d : ℕ) : Type 0 where
  pub judged : SameJudged s t
  pub reference : tile_directory_reference s ≡ tile_directory_reference t
  pub directories : records_of s tile_directory_type ≡ records_of t tile_directory_type
  pub own : content_at d ≡ tile_directory_reference s
  pub head : Same s t d (d + 32)
  pub in_first : d + length_at s d ≤ length s
  pub in_second : d + length_at s d ≤ length t

module _ {s t : List ℕ} {d : ℕ} (k : SameForm s t d) where
  across_same : tiles_across s ≡ tiles_across t
  across_same = judged_across s t k.judged

  down_same : tiles_down s ≡ tiles_down t
  down_same = judged_down s t k.judged

  pub count_same : tile_count s ≡ tile_count t
  count_same = judged_count s t k.judged

  refers : refers_to t 5 (tile_directory_reference t) ≡ refers_to s 5 (tile_directory_reference s)
  unfolding refers_to
  refers = rw (← k.reference, ← k.directories)

  others : no_other t 5 (tile_directory_reference t) ≡ no_other s 5 (tile_directory_reference s)
  unfolding no_other
  others = rw (← k.reference, ← k.directories)

  pub at_first : tile_directory_at s ≡ d
  unfolding tile_directory_at
  at_first = omega (arith, k.own)

  pub at_second : tile_directory_at t ≡ d
  unfolding tile_directory_at
  at_second = omega (arith, k.own, k.reference)

  number_at_lem : (w i : ℕ) → i + w ≤ 32 → number_at w s (d + i) ≡ number_at w t (d + i)
  number_at_lem w i h = number_same k.head w (d + i) (omega arith) (omega arith)

  byte_at_lem : (i : ℕ) → i < 32 → byte_at s (d + i) ≡ byte_at t (d + i)
  byte_at_lem i h = byte_same k.head (d + i) (omega arith) (omega arith)

  -- its fields

  standard_at : standard_references s d ≡ standard_references t d
  standard_at = byte_at_lem 9 (omega arith)

  standard_same : standard_references s (tile_directory_at s) ≡ standard_references t (tile_directory_at t)
  standard_same = rw (at_first, at_second) standard_at

  rows_same : listed_rows s (tile_directory_at s) ≡ listed_rows t (tile_directory_at t)
  rows_same = rw (at_first, at_second) (number_at_lem 4 24 (omega arith))

  columns_same : listed_columns s (tile_directory_at s) ≡ listed_columns t (tile_directory_at t)
  columns_same = rw (at_first, at_second) (number_at_lem 4 28 (omega arith))

  row_same : first_row s (tile_directory_at s) ≡ first_row t (tile_directory_at t)
  row_same = rw (at_first, at_second) (number_at_lem 4 16 (omega arith))

  column_same : first_column s (tile_directory_at s) ≡ first_column t (tile_directory_at t)
  column_same = rw (at_first, at_second) (number_at_lem 4 20 (omega arith))

  length_same : length_at s d ≡ length_at t d
  length_same = number_same k.head 4 d (omega arith) (omega arith)

  -- a reference, by the bytes that stand there

  size_is : (b : Bool) → eqb (standard_references s d) 1 ≡ b → reference_size s ≡ pick b 8 4
  unfolding reference_size
  size_is b e = rw (at_first, e)

  pub reference_stays :
      (i : ℕ) → number_at (reference_size s) s (d + (32 + reference_size s * i)) ≡ number_at (reference_size s) t (d + (32 + reference_size s * i)) →
      reference_at s d i ≡ reference_at t d i
  unfolding reference_at
  reference_stays i h = go (eqb (standard_references s d) 1) refl
    where
      go :
          (b : Bool) → eqb (standard_references s d) 1 ≡ b →
          pick (eqb (standard_references s d) 1) (u64_at s (d + 32 + 8 * i)) (u32_at s (d + 32 + 4 * i) * 8)
          ≡ pick (eqb (standard_references t d) 1) (u64_at t (d + 32 + 8 * i)) (u32_at t (d + 32 + 4 * i) * 8)
      go true e =
          let z : d + 32 + 8 * i ≡ d + (32 + 8 * i) = omega arith in
          rw (← standard_at, e, z) (rw (size_is true e) at h)
      go false e =
          let z : d + 32 + 4 * i ≡ d + (32 + 4 * i) = omega arith in
          rw (← standard_at, e, z) (ap (λ (n : ℕ). n * 8) (rw (size_is false e) at h))

  pub reference_set :
      (i content : ℕ) → number_at (reference_size s) t (d + (32 + reference_size s * i)) ≡ pick (eqb (reference_size s) 8) content (content / 8) → content % 8 ≡ 0 →
      reference_at t d i ≡ content
  unfolding reference_at
  reference_set i content h k = go (eqb (standard_references s d) 1) refl
    where
      go :
          (b : Bool) → eqb (standard_references s d) 1 ≡ b →
          pick (eqb (standard_references t d) 1) (u64_at t (d + 32 + 8 * i)) (u32_at t (d + 32 + 4 * i) * 8) ≡ content
      go true e =
          let z : d + 32 + 8 * i ≡ d + (32 + 8 * i) = omega arith in
          rw (← standard_at, e, z) (rw (size_is true e) at h)
      go false e =
          let z : d + 32 + 4 * i ≡ d + (32 + 4 * i) = omega arith in
          let m : number_at 4 t (d + (32 + 4 * i)) ≡ content / 8 = rw (size_is false e) at h in
          rw (← standard_at, e, z, m) (omega arith)

  -- its rules but for the references

  form_same : form_right s ≡ form_right t
  unfolding form_right
  form_same =
      let a : directory_format s (tile_directory_at s) ≡ directory_format t (tile_directory_at t) = rw (at_first, at_second) (byte_at_lem 8 (omega arith)) in
      rw (a, standard_same)

  rectangle_same : rectangle_right s ≡ rectangle_right t
  unfolding rectangle_right
  rectangle_same = rw (row_same, column_same, rows_same, columns_same, down_same, across_same)

  pub full_same : directory_full s ≡ directory_full t
  unfolding directory_full
  full_same = rw (rows_same, columns_same, down_same, across_same)

  size_same : reference_size s ≡ reference_size t
  unfolding reference_size
  size_same = rw standard_same

  end_same : references_end s ≡ references_end t
  unfolding references_end
  end_same = rw (rows_same, columns_same, size_same, at_first, at_second)

  limit_first : record_limit s d ≡ d + length_at s d - 4
  unfolding record_limit
  limit_first = omega (arith, k.in_first)

  limit_second : record_limit t d ≡ d + length_at s d - 4
  unfolding record_limit
  limit_second = omega (arith, k.in_second, length_same)

  padded_same : padded s (tile_directory_at s) (references_end s) ≡ padded t (tile_directory_at t) (references_end t)
  unfolding padded
  padded_same = rw (at_first, at_second, end_same, limit_first, limit_second)

  module _ (right : tile_directory_right s ≡ true) where
    rectangle : rectangle_right s ≡ true
    unfolding tile_directory_right
    rectangle = (means _ right).1.1.1.0

    pub form_one : OneToOne s
    unfolding tile_directory_right
    form_one = one_to_one s (means _ right).1.1.1.1.1.0 (means _ right).1.1.1.1.1.1.0 rectangle

    -- the directory is right again where its references are
    pub form_kept : tiles_listed t ≡ true → tiles_only t ≡ true → tile_directory_right t ≡ true
    unfolding tile_directory_right
    form_kept listed only =
        let a = means _ right in
        sym
        (yes _
        (refers ∙ a.0, (others ∙ a.1.0, (sym form_same ∙ a.1.1.0, (sym rectangle_same ∙ rectangle, (sym padded_same ∙ a.1.1.1.1.0, (listed, (only, tt))))))))

    ends : references_end s ≤ d + length_at s d - 4
    unfolding tile_directory_right padded
    ends = rw (at_first, limit_first) at (means _ (means _ right).1.1.1.1.0).0

    -- a full one gives for each tile of the grid the reference of that number, which lies before its checksum
    module _ (full : directory_full s ≡ true) where
      sides : (listed_rows s (tile_directory_at s) ≡ tiles_down s) × (listed_columns s (tile_directory_at s) ≡ tiles_across s)
      unfolding directory_full
      sides = let a = means _ full in (a.0, a.1.0)

      count_is : reference_count s ≡ tile_count s
      unfolding tile_count tiles_in tiles_down tiles_across
      count_is = rw (sides.0, sides.1)

      pub reference_first : (i : ℕ) → i < tile_count s → tile_reference s i ≡ reference_at s d i
      reference_first i h =
          let z = full_first s right full in
          grid_reference s z.0 z.1 sides.0 sides.1 i h ∙ ap (λ (x : ℕ). reference_at s x i) at_first

      pub reference_second : (i : ℕ) → i < tile_count s → tile_reference t i ≡ reference_at t d i
      reference_second i h =
          let z = full_first s right full in
          grid_reference t (sym row_same ∙ z.0) (sym column_same ∙ z.1) (sym rows_same ∙ sides.0 ∙ down_same) (sym columns_same ∙ sides.1 ∙ across_same) i (omega (arith, count_same))
          ∙ ap (λ (x : ℕ). reference_at t x i) at_second

      pub reference_room : (i : ℕ) → i < tile_count s → 32 + reference_size s * i + reference_size s + 4 ≤ length_at s d
      unfolding references_end
      reference_room i h = go (eqb (standard_references s d) 1) refl ends
        where
          go :
              (b : Bool) → eqb (standard_references s d) 1 ≡ b → tile_directory_at s + 32 + reference_count s * reference_size s ≤ d + length_at s d - 4 →
              32 + reference_size s * i + reference_size s + 4 ≤ length_at s d
          go true e m =
              let z : d + 32 + tile_count s * 8 ≤ d + length_at s d - 4 = rw (count_is, at_first, size_is true e) at m in
              rw (size_is true e) (omega arith)
          go false e m =
              let z : d + 32 + tile_count s * 4 ≤ d + length_at s d - 4 = rw (count_is, at_first, size_is false e) at m in
              rw (size_is false e) (omega arith)
