-- What a front that passes stages 1 to 4 gives: its rules, and its numbers as they are counted. Assumes nothing.
use Rattle.std.specs.Prelude.{Ok}
use Prim.Native.Nat.{ℕ, min, ◌+◌, ◌*◌, ◌≤◌}
use mathlib.Core.Path.{◌≡◌, refl, sym, ap, ◌∙◌}
use mathlib.Core.List.{List}
use mathlib.Core.Bool.{true}
use native.Mathlib.Omega.{arith}
use native.Mathlib.Nat.{mul-le-mul}
use lib.ListN.{length}
use Rattle.wire.proofs.TestLaws.{means, yes}
use Rattle.record.specs.Chain.{header_end}
use Rattle.geometry.specs.Tiles.{tile_count}
use Rattle.geometry.specs.Sizes.{least_length, cap, tile_bytes, plain_tile_length}
use Rattle.geometry.proofs.SizeLaws.{plain_most}
use Rattle.check_header.specs.Stages.{front_right, check_front}
use Rattle.check_header.specs.Passed.{Headed, InRange}
use Rattle.check_header.proofs.PassedLaws.{range_of, stages_passed}
use Rattle.tile_sizes.specs.TileSizes.{tile_small, length_of_tile, with_sizes}
use Rattle.tile_sizes.proofs.SizeLaws.{length_is, with_length, sizes_read}
use Rattle.written_records.specs.Pieces.{record_length}
use Rattle.lay_down.specs.Ready.{SizesOf}

-- a front passes stages 1 to 4 by itself, and is its header and no byte more
pub front_passed : (f : List ℕ) → check_front f ≡ Ok tt → Headed f (length f) × (header_end f ≡ length f)
unfolding check_front front_right
front_passed f e =
    let a = stages_passed f (length f) _ _ e (λ h. (means _ h).0) in
    (a.0, (means _ a.1.0).1.0)

-- its numbers
abbrev pub Front : List ℕ → Type 0
Front f = InRange f (length f)

pub front_of_lem : (f : List ℕ) → check_front f ≡ Ok tt → Front f
front_of_lem f e = range_of f (length f) (front_passed f e).0

module _ (f : List ℕ) (w : Front f) where
  pub tile_exact : (x : ℕ) → x ≡ min (tile_bytes f) cap → x ≡ tile_bytes f
  tile_exact x p = omega (arith, w.tile_size)

  -- it keeps the ceiling on a tile's bytes

  pub front_small : tile_small f ≡ true
  unfolding tile_small
  front_small = sym (yes _ (w.tile_size, tt))

  pub sizes_of_lem : (us : List ℕ) {l : List ℕ} → l ≡ with_sizes f us → length us ≡ 16 → SizesOf f l
  sizes_of_lem us e h =
      let r = sizes_read f us front_small (omega arith) in
      (ap length e ∙ with_length f us ∙ h, λ d k. rw e (r d k))

  pub length_of : (r : ℕ) → r ≡ length_of_tile f → r ≡ plain_tile_length f
  length_of r e = e ∙ sym (length_is f front_small (plain_tile_length f) refl)

  -- no sum of lengths is too large

  pub plain_small : plain_tile_length f ≤ 1048711
  plain_small = omega (arith, plain_most f, w.tile_size, w.all, w.elements)

  pub records_small : (k : ℕ) → k ≤ 65536 → k * plain_tile_length f ≤ 68728324096
  records_small k h = let a : k * plain_tile_length f ≤ 65536 * 1048711 = mul-le-mul h plain_small in omega arith

  pub directory_small : record_length (24 + 4 * tile_count f) ≤ 262187
  unfolding record_length least_length
  directory_small = omega (arith, w.tiles)

-- the directory's length
pub directory_is : (f : List ℕ) (n r : ℕ) → n ≡ tile_count f → r ≡ least_length (32 + 4 * n) → r ≡ record_length (24 + 4 * tile_count f)
unfolding record_length
directory_is f n r p q = let e : 32 + 4 * n ≡ 8 + (24 + 4 * tile_count f) = omega arith in q ∙ ap least_length e
