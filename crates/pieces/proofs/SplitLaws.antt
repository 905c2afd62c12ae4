-- A page is its front and its records. Assumes nothing.
use Prim.Native.Nat.{ℕ, ◌+◌, ◌≤◌}
use mathlib.Core.Path.{◌≡◌, refl, sym, ap, ap₂, ◌∙◌}
use mathlib.Core.List.{List, [], ◌∷◌, ◌++◌}
use mathlib.Core.Bool.{true}
use native.Mathlib.Omega.{arith}
use lib.ListN.{length, take, drop, take-append-drop}
use lib.Seq.{drop-drop, drop-length}
use lib.Dec.{eqb}
use Rattle.wire.specs.Bytes.{part, u32_at}
use Rattle.wire.proofs.ByteLaws.{part_in, part_length}
use Rattle.wire.proofs.PlaceLaws.{Placed, part_placed, placed_number, placed_byte}
use Rattle.record.specs.Record.{length_at, type_at, record_ok}
use Rattle.record.specs.Chain.{header_end, records, Whole, joined, WellFormed}
use Rattle.record.proofs.ChainLaws.{IsRecord, ok_means, means_ok}
use Rattle.pieces.specs.Pieces.{piece_at, pieces_of, pieces, is_free, SplitOf}

-- one record, by itself
module _ (s : List ℕ) (x : ℕ) (o : record_ok s x ≡ true) where
  is : IsRecord s x
  is = ok_means s x o

  pub piece_long : length (piece_at s x) ≡ length_at s x
  unfolding piece_at
  piece_long = part_length s x (length_at s x) is.inside

  pub piece_placed : Placed s x (piece_at s x)
  unfolding piece_at
  piece_placed = part_placed s x (length_at s x) is.inside

  pub piece_length : length_at (piece_at s x) 0 ≡ length_at s x
  piece_length =
      let l = is.long in let m = piece_long in
      let e : x + 0 ≡ x = omega arith in
      sym (placed_number piece_placed 4 0 (omega arith)) ∙ ap (u32_at s) e

  pub piece_type : type_at (piece_at s x) 0 ≡ type_at s x
  piece_type =
      let l = is.long in let m = piece_long in
      sym (placed_byte piece_placed 4 (omega arith))

  pub piece_free : is_free (piece_at s x) ≡ eqb (type_at s x) 0
  unfolding is_free
  piece_free = rw piece_type

  pub piece_ok : record_ok (piece_at s x) 0 ≡ true
  piece_ok =
      let e = piece_length in let t = piece_type in let m = piece_long in
      means_ok (piece_at s x) 0
      (record { long = rw e is.long; plain = rw e is.plain; eights = rw e is.eights; inside = omega arith; known = rw t is.known })

-- the bytes from a record boundary on are the records from there on
drop_split : (s : List ℕ) (at n : ℕ) → at + n ≤ length s → drop at s ≡ part s at n ++ drop (at + n) s
drop_split s at n h =
    sym (take-append-drop n (drop at s)) ∙ ap₂ (λ (a b : List ℕ). a ++ b) (sym (part_in s at n h)) (drop-drop n at s)

pub split_of : (s : List ℕ) (at : ℕ) (xs : List ℕ) → Whole s at xs → drop at s ≡ joined (pieces_of s xs)
unfolding pieces_of piece_at
split_of s at [] w = ap (λ (n : ℕ). drop n s) w ∙ drop-length s
split_of s at (x ∷ xs) w =
    let e : x ≡ at = w.0 in
    let i = ok_means s x w.1.0 in
    ap (λ (n : ℕ). drop n s) (sym e) ∙ drop_split s x (length_at s x) i.inside ∙ ap₂ (λ (a b : List ℕ). a ++ b) (piece_is x) (split_of s (x + length_at s x) xs w.1.1)
  where
    piece_is : (x : ℕ) → part s x (length_at s x) ≡ piece_at s x
    piece_is x = refl

pub well_formed : (s : List ℕ) (at : ℕ) (xs : List ℕ) → Whole s at xs → WellFormed (pieces_of s xs)
unfolding pieces_of
well_formed s at [] w = _
well_formed s at (x ∷ xs) w =
    ((piece_ok s x w.1.0, piece_length s x w.1.0 ∙ sym (piece_long s x w.1.0)), well_formed s (x + length_at s x) xs w.1.1)

pub page_split : SplitOf
unfolding pieces
page_split s w = (
  sym (take-append-drop (header_end s) s) ∙ ap (λ (l : List ℕ). take (header_end s) s ++ l) (split_of s (header_end s) (records s) w),
  well_formed s (header_end s) (records s) w,
)
