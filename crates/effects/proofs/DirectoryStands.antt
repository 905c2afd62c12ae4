-- The tile directory of a page open for writing: the one piece of its type, with room for each tile's reference. Assumes nothing.
use Prim.Native.Nat.{ℕ, ◌+◌, ◌*◌, ◌-◌, ◌≤◌, ◌<◌}
use mathlib.Core.Path.{◌≡◌, refl, ap, ◌∙◌}
use mathlib.Core.List.{List, [], ◌∷◌, map, Memᴰ}
use mathlib.Core.Bool.{Bool, true, false}
use native.Mathlib.Omega.{arith}
use native.Mathlib.Nat.{mul-le-mul_left, mul_comm}
use lib.ListN.{length}
use lib.Dec.{eqb}
use borrow.Author.Tests.{eqb-true}
use Rattle.wire.specs.Pick.{pick}
use Rattle.wire.specs.Lists.{select, every, some}
use Rattle.wire.proofs.TestLaws.{means, not_both}
use Rattle.wire.proofs.ListLaws.{Behind, every_each}
use Rattle.record.specs.Record.{length_at, type_at, content_at, record_ok, record_limit, padded}
use Rattle.record.specs.Chain.{header_end, records, records_of, Whole}
use Rattle.record.proofs.ChainLaws.{whole_extent}
use Rattle.record.proofs.FindLaws.{of_type, records_behind}
use Rattle.header.specs.Fields.{tile_directory_reference}
use Rattle.geometry.specs.Tiles.{tiles_across, tiles_down, tiles_in, tile_count}
use Rattle.bodies.specs.TileDirectory.{tile_directory_at, listed_rows, listed_columns, reference_count, reference_size, references_end}
use Rattle.check_directory.specs.References.{refers_to, no_other}
use Rattle.check_directory.specs.TileRules.{tile_directory_right}
use Rattle.pieces.specs.Pieces.{piece_at, pieces_of, pieces}
use Rattle.pieces.specs.Standing.{standing}
use Rattle.pieces.proofs.SplitLaws.{piece_long, piece_type}
use Rattle.writable.specs.Writable.{directory_full}

-- what stands among the pieces of a page, by its records
pub pieces_standing :
    (s : List ℕ) (kind at : ℕ) (xs : List ℕ) → Whole s at xs →
    standing kind at (pieces_of s xs) ≡ map (λ x. (x, piece_at s x)) (select (λ x. eqb (type_at s x) kind) xs)
unfolding standing pieces_of select
pieces_standing s kind at [] w = refl
pieces_standing s kind at (x ∷ xs) w =
    let e : x ≡ at = w.0 in
    let a : at + length (piece_at s x) ≡ x + length_at s x = omega (arith, piece_long s x w.1.0) in
    rw (piece_type s x w.1.0, a, ← e) (go (eqb (type_at s x) kind) (pieces_standing s kind (x + length_at s x) xs w.1.1))
  where
    go :
        (b : Bool) → standing kind (x + length_at s x) (pieces_of s xs) ≡ map (λ x. (x, piece_at s x)) (select (λ x. eqb (type_at s x) kind) xs) →
        pick b ((x, piece_at s x) ∷ standing kind (x + length_at s x) (pieces_of s xs)) (standing kind (x + length_at s x) (pieces_of s xs))
        ≡ map (λ x. (x, piece_at s x)) (pick b (x ∷ select (λ x. eqb (type_at s x) kind) xs) (select (λ x. eqb (type_at s x) kind) xs))
    go true i = ap (λ (l : List (ℕ × List ℕ)). (x, piece_at s x) ∷ l) i
    go false i = i

-- the only record of a type, which a reference names
one_listed :
    (l : List ℕ) (r : ℕ) → Behind 0 l → some (λ x. eqb (content_at x) r) l ≡ true → every (λ x. eqb (content_at x) r) l ≡ true → l ≡ (r - 8) ∷ []
unfolding some
one_listed [] r b i j = not_both i refl
one_listed (x ∷ []) r b i j =
    every_each (λ x. eqb (content_at x) r) x [] j
    (λ e f. let a : x ≡ r - 8 = omega (arith, eqb-true (content_at x) r e) in ap (λ (n : ℕ). n ∷ []) a)
one_listed (x ∷ y ∷ l) r b i j =
    every_each (λ x. eqb (content_at x) r) x (y ∷ l) j
    (λ e f. every_each (λ x. eqb (content_at x) r) y l f (λ g h. absurd (omega (arith, eqb-true (content_at x) r e, eqb-true (content_at y) r g, b.1.0))))

pub only_of_type : (s : List ℕ) (kind reference : ℕ) → refers_to s kind reference ≡ true → no_other s kind reference ≡ true → records_of s kind ≡ (reference - 8) ∷ []
unfolding refers_to no_other
only_of_type s kind reference i j = one_listed (records_of s kind) reference (records_behind s kind) i j

module _ (s : List ℕ) (w : Whole s (header_end s) (records s)) (t : tile_directory_right s ≡ true) where
  directory_only : records_of s 5 ≡ tile_directory_at s ∷ []
  unfolding tile_directory_right tile_directory_at
  directory_only = let m = means _ t in only_of_type s 5 (tile_directory_reference s) m.0 m.1.0

  pub directory_stands : standing 5 (header_end s) (pieces s) ≡ (tile_directory_at s, piece_at s (tile_directory_at s)) ∷ []
  unfolding pieces records_of
  directory_stands = pieces_standing s 5 (header_end s) (records s) w ∙ ap (map (λ x. (x, piece_at s x))) directory_only

  directory_found : Memᴰ (tile_directory_at s) (records s) × (type_at s (tile_directory_at s) ≡ 5)
  directory_found = of_type s 5 (rw directory_only (Memᴰ.head refl))

  pub directory_ok : record_ok s (tile_directory_at s) ≡ true
  directory_ok = (whole_extent s (header_end s) (records s) w directory_found.0).ok

  pub directory_behind : header_end s ≤ tile_directory_at s
  directory_behind = (whole_extent s (header_end s) (records s) w directory_found.0).behind

  directory_holds : references_end s ≤ record_limit s (tile_directory_at s)
  unfolding tile_directory_right padded
  directory_holds = (means _ (means _ t).1.1.1.1.0).0

  -- each tile's reference lies in it, where it is full
  pub reference_inside : directory_full s ≡ true → (i : ℕ) → i < tile_count s → 32 + reference_size s * i + reference_size s ≤ length_at s (tile_directory_at s)
  unfolding directory_full references_end record_limit tile_count tiles_in tiles_down tiles_across
  reference_inside full i h =
      let m = means _ full in
      let a : listed_rows s (tile_directory_at s) ≡ tiles_down s = m.0 in
      let b : listed_columns s (tile_directory_at s) ≡ tiles_across s = m.1.0 in
      let c : reference_count s ≡ tile_count s = rw (a, b) in
      let d : reference_size s * (i + 1) ≤ reference_size s * tile_count s = mul-le-mul_left (reference_size s) (omega arith) in
      let e : reference_size s * (i + 1) ≡ reference_size s * i + reference_size s = omega arith in
      let f : tile_directory_at s + 32 + tile_count s * reference_size s ≤ record_limit s (tile_directory_at s) = rw c at directory_holds in
      let g = mul_comm (tile_count s) (reference_size s) in
      omega arith
