-- Where the pieces of what is laid down stand. Assumes nothing.
use Prim.Native.Nat.{ℕ, zero, suc, ◌+◌, ◌*◌, ◌<◌}
use mathlib.Core.Path.{◌≡◌, sym, ◌∙◌}
use mathlib.Core.List.Memᴰ
use mathlib.Core.List.{List, [], ◌∷◌, ◌++◌, Memᴰ}
use mathlib.Core.Logic.{⊎_elim}
use native.Mathlib.Omega.{arith}
use lib.ListN.{length, get_or, take, drop}
use lib.Seq.{drop-drop}
use Rattle.wire.specs.Bytes.{part}
use Rattle.wire.proofs.ByteLaws.{part_in}
use Rattle.wire.proofs.ItemLaws.{item_within}
use Rattle.wire.proofs.PlaceLaws.{Placed, placed_self, placed_last, placed_before, placed_inner, placed_at}
use Rattle.header.specs.Fields.{element_count}
use Rattle.header.specs.Element.{entries_read}
use Rattle.record.specs.Chain.{joined, starts_of}
use Rattle.geometry.specs.Sizes.{tile_bytes, plain_tile_length}
use Rattle.written_records.specs.Tile.{tile_record}
use Rattle.written_records.proofs.TileLaws.{tile_length_lem}
use Rattle.lay_down.specs.Page.{tile_records}
use Rattle.lay_down.proofs.PageLaws.{cells_split}

-- the cell bytes of a later tile, among those behind the first
cells_behind : (t n k : ℕ) (c : List ℕ) → length c ≡ suc n * t → k < n → part (drop t c) (k * t) t ≡ part c (suc k * t) t
cells_behind t n k c h l =
    let p = cells_split t n c h in
    let m = item_within n k t l in
    let e : t + k * t ≡ suc k * t = omega arith in
    part_in (drop t c) (k * t) t (omega (arith, p.1)) ∙ rw (drop-drop (k * t) t c, e) (sym (part_in c (suc k * t) t (omega arith)))

-- x is where the tile record of some number starts, the first at `at`
pub record TileStart (f ix : List ℕ) (at x : ℕ) : Type 0 where
  pub number : ℕ
  pub among : number < length ix
  pub start : x ≡ at + number * plain_tile_length f

module _ (f : List ℕ) (all : entries_read f ≡ element_count f) where
  -- the first tile record, and a later one behind it

  first_tile :
      (i m : ℕ) (c rest : List ℕ) → length c ≡ suc m * tile_bytes f →
      Placed (tile_record f i (take (tile_bytes f) c) ++ rest) (0 * plain_tile_length f) (tile_record f i (part c (0 * tile_bytes f) (tile_bytes f)))
  first_tile i m c rest h =
      let n = tile_bytes f in
      let w = item_within (suc m) 0 n (omega arith) in
      let a : 0 * n ≡ 0 = omega arith in
      let b : 0 * plain_tile_length f ≡ 0 = omega arith in
      rw (b, a, part_in c 0 n (omega arith)) (placed_before (placed_self (tile_record f i (take n c))) rest)

  later_tile :
      (i j m k : ℕ) (c rest : List ℕ) → length c ≡ suc m * tile_bytes f → k < m →
      Placed rest (k * plain_tile_length f) (tile_record f j (part (drop (tile_bytes f) c) (k * tile_bytes f) (tile_bytes f))) →
      Placed (tile_record f i (take (tile_bytes f) c) ++ rest) (suc k * plain_tile_length f) (tile_record f j (part c (suc k * tile_bytes f) (tile_bytes f)))
  later_tile i j m k c rest h l p =
      let n = tile_bytes f in
      let a = tile_length_lem f all i (take n c) (cells_split n m c h).0 in
      rw (← cells_behind n m k c h l) (placed_at (placed_inner (placed_last (tile_record f i (take n c)) rest a) p) (omega arith))

  -- so each stands behind those before it
  pub tiles_placed :
      (ix c : List ℕ) → length c ≡ length ix * tile_bytes f → (k : ℕ) → k < length ix →
      Placed (joined (tile_records f ix c)) (k * plain_tile_length f) (tile_record f (get_or ix k 0) (part c (k * tile_bytes f) (tile_bytes f)))
  unfolding tile_records
  tiles_placed [] c h k l = absurd (omega arith)
  tiles_placed (i ∷ is) c h zero l = first_tile i (length is) c _ h
  tiles_placed (i ∷ is) c h (suc k) l =
      later_tile i (get_or is k 0) (length is) k c _ h (omega arith)
      (tiles_placed is (drop (tile_bytes f) c) (cells_split (tile_bytes f) (length is) c h).1 k (omega arith))

  -- those are the starts, and no other
  pub start_tile :
      (ix c : List ℕ) → length c ≡ length ix * tile_bytes f → (at : ℕ) {x : ℕ} → Memᴰ x (starts_of at (tile_records f ix c)) → TileStart f ix at x
  unfolding tile_records
  start_tile [] c h at m = absurd (Memᴰ.not-nil m)
  start_tile (i ∷ is) c h at {x} m =
      let n = tile_bytes f in
      let p = cells_split n (length is) c h in
      let a = tile_length_lem f all i (take n c) p.0 in
      ⊎_elim (λ e. record { number = 0; among = omega arith; start = omega arith })
      (λ j.
      let q = start_tile is (drop n c) p.1 (at + length (tile_record f i (take n c))) j in
      record { number = suc q.number; among = omega (arith, q.among); start = omega (arith, q.start) })
      (Memᴰ.cases_cons m)

  pub tile_start :
      (ix c : List ℕ) → length c ≡ length ix * tile_bytes f → (at k : ℕ) → k < length ix →
      Memᴰ (at + k * plain_tile_length f) (starts_of at (tile_records f ix c))
  unfolding tile_records
  tile_start [] c h at k l = absurd (omega arith)
  tile_start (i ∷ is) c h at zero l = let e : at + 0 * plain_tile_length f ≡ at = omega arith in Memᴰ.head e
  tile_start (i ∷ is) c h at (suc k) l =
      let n = tile_bytes f in
      let p = cells_split n (length is) c h in
      let a = tile_length_lem f all i (take n c) p.0 in
      let e : at + length (tile_record f i (take n c)) + k * plain_tile_length f ≡ at + suc k * plain_tile_length f = omega arith in
      Memᴰ.tail (rw e at (tile_start is (drop n c) p.1 (at + length (tile_record f i (take n c))) k (omega arith)))
