-- The list of entries as numbers, and what is counted element by element. Assumes nothing.
use Prim.Native.Nat.{ℕ, zero, suc, ◌+◌, ◌*◌, ◌/◌, ◌≤◌}
use mathlib.Core.Path.{◌≡◌, refl, sym, ap, ap₂, ◌∙◌, fun_ext}
use mathlib.Core.List.{List, [], ◌∷◌, ◌++◌}
use mathlib.Core.Bool.{Bool}
use native.Mathlib.Omega.{arith}
use native.Mathlib.Nat.{div-add-mod'}
use lib.ListN.{length, take, length-append}
use lib.Seq.{take-nil, take-append-add}
use Rattle.wire.specs.Bytes.{put}
use Rattle.blocks.specs.Folds.{fold_inside}
use Rattle.blocks.proofs.FoldLaws.{lists}
use Rattle.blocks.proofs.InsideLaws.{inside_part}
use Rattle.row_lists.specs.Entries.{Entry, Tiling, entries_at, differing_in, entry_size, tiled_numbers, flat, listed}
use Rattle.row_lists.specs.Placing.{all_of, stretch, start, numbers_at, PlacedListed, StartCounted, StretchCounted}
use Rattle.row_lists.proofs.EntryLaws.{count_is}
use Rattle.row_lists.proofs.PlacingLaws.{placed_all}

pub flat_append : (tiling : Tiling) (l m : List Entry) → flat tiling (l ++ m) ≡ flat tiling l ++ flat tiling m
unfolding flat
flat_append tiling [] m = refl
flat_append tiling (x ∷ l) m = ap (λ (v : List ℕ). tiled_numbers tiling x ++ v) (flat_append tiling l m) ∙ sym (lists.assoc (tiled_numbers tiling x) (flat tiling l) (flat tiling m))

pub flat_long : (tiling : Tiling) (l : List Entry) → length (flat tiling l) ≡ entry_size * length l
unfolding flat
flat_long tiling [] = refl
flat_long tiling (x ∷ l) = length-append (tiled_numbers tiling x) (flat tiling l) ∙ omega (arith, flat_long tiling l)

-- two tilings that say the same of each cell are one
pub same_tiling : (v w : Tiling) → ((r c : ℕ) → v.tile r c ≡ w.tile r c) → ((r c : ℕ) → v.inside r c ≡ w.inside r c) → v ≡ w
same_tiling v w f g = ap₂ by (fun_ext (λ r. fun_ext (f r))) (fun_ext (λ r. fun_ext (g r)))
  where
    by : (ℕ → ℕ → ℕ) → (ℕ → ℕ → ℕ) → Tiling
    by t i = record { tile = t; inside = i }

-- whole entries are taken as numbers
pub flat_take : (tiling : Tiling) (k : ℕ) (l : List Entry) → take (k * entry_size) (flat tiling l) ≡ flat tiling (take k l)
unfolding flat
flat_take tiling zero l = refl
flat_take tiling (suc k) [] = take-nil (suc k * entry_size)
flat_take tiling (suc k) (x ∷ l) =
    let z : suc k * entry_size ≡ length (tiled_numbers tiling x) + k * entry_size = omega arith in
    rw z (take-append-add (tiled_numbers tiling x) (flat tiling l) (k * entry_size) ∙ ap (λ (v : List ℕ). tiled_numbers tiling x ++ v) (flat_take tiling k l))

flat_all : (tiling : Tiling) (d : ℕ → ℕ → ℕ → Bool) (e top bottom left right : ℕ) → flat tiling (differing_in d e top bottom left right) ≡ fold_inside ◌++◌ [] top bottom left right (numbers_at tiling d e)
unfolding differing_in flat
flat_all tiling d e top bottom left right = inside_part ◌++◌ [] ◌++◌ [] (flat tiling) refl (flat_append tiling) top bottom left right (entries_at d e)

pub start_counted : StartCounted
unfolding start all_of
start_counted tiling d e n r = ap length (sym (flat_all tiling d e 0 r 0 n)) ∙ flat_long tiling (differing_in d e 0 r 0 n) ∙ ap (λ (k : ℕ). entry_size * k) (count_is d e 0 r 0 n)

pub stretch_counted : StretchCounted
unfolding stretch
stretch_counted tiling d e r left right =
    ap length (sym (flat_all tiling d e r (r + 1) left right)) ∙ flat_long tiling (differing_in d e r (r + 1) left right) ∙ ap (λ (k : ℕ). entry_size * k) (count_is d e r (r + 1) left right)

pub placed_listed : PlacedListed
unfolding all_of listed
placed_listed tiling d e m n done old now p f =
    let c : ℕ = length old / entry_size * entry_size in
    let h : c ≤ length old = omega (arith, div-add-mod' (length old) entry_size) in
    placed_all (numbers_at tiling d e) m n c done old now p f h
    ∙ ap (λ (v : List ℕ). put old 0 (take c v)) (sym (flat_all tiling d e 0 m 0 n)) ∙ ap (put old 0) (flat_take tiling (length old / entry_size) (differing_in d e 0 m 0 n))
