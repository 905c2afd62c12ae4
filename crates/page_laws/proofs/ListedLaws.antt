-- Stage 9's correspondence of tile records and references where both stay. Assumes nothing.
use Prim.Native.Nat.{ℕ, ◌<◌}
use mathlib.Core.Path.{◌≡◌, sym, ◌∙◌}
use mathlib.Core.List.{List, Memᴰ}
use mathlib.Core.Bool.{true}
use native.Mathlib.Omega.{arith}
use Rattle.record.specs.Chain.{records_of}
use Rattle.geometry.specs.Tiles.{tiles_across, tiles_down, tile_count}
use Rattle.bodies.specs.TileRecord.{tile_index}
use Rattle.bodies.specs.TileDirectory.{tile_reference}
use Rattle.check_header.specs.Judged.{SameJudged}
use Rattle.check_header.proofs.Judged.{rows, columns, tile_rows_lem, tile_columns_lem}
use Rattle.check_directory.specs.TileRules.{tiles_listed, tiles_only}
use Rattle.check_directory.specs.Correspondence.{OneToOne}
use Rattle.check_directory.proofs.CorrespondLaws.{if_listed, if_only}

-- headers that agree in what is judged have the same tiles
module _ (s t : List ℕ) (j : SameJudged s t) where
  pub judged_across : tiles_across s ≡ tiles_across t
  unfolding tiles_across
  judged_across = rw (columns s t j, tile_columns_lem s t j)

  pub judged_down : tiles_down s ≡ tiles_down t
  unfolding tiles_down
  judged_down = rw (rows s t j, tile_rows_lem s t j)

  pub judged_count : tile_count s ≡ tile_count t
  unfolding tile_count
  judged_count = rw (rows s t j, columns s t j, tile_rows_lem s t j, tile_columns_lem s t j)

-- t has the tile records of s, with their indexes, and gives for each tile what s gives
pub record SameListed (s t : List ℕ) : Type 0 where
  pub count : tile_count s ≡ tile_count t
  pub records : records_of s 2 ≡ records_of t 2
  pub index : (x : ℕ) → Memᴰ x (records_of s 2) → tile_index s x ≡ tile_index t x
  pub reference : (i : ℕ) → i < tile_count s → tile_reference s i ≡ tile_reference t i

module _ (s t : List ℕ) (k : SameListed s t) (one : OneToOne s) where
  pub listed_same : tiles_listed t ≡ true
  listed_same =
      if_listed t
      (λ x m.
      let n : Memᴰ x (records_of s 2) = rw k.records m in
      rw (← k.index x n) (sym (k.reference (tile_index s x) (one.below n)) ∙ one.listed n))

  pub only_same : tiles_only t ≡ true
  only_same =
      if_only t
      (λ i h z.
      let l : i < tile_count s = omega (arith, k.count) in
      let q = k.reference i l in
      let o = one.given i l (λ y. z (sym q ∙ y)) in
      record {
        start = o.start;
        among = rw (← k.records) o.among;
        index = sym (k.index o.start o.among) ∙ o.index;
        content = o.content ∙ q;
      })
