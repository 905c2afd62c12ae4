-- The compact references of ascending tile indexes. Assumes nothing.
use Prim.Native.Nat.{ℕ, zero, suc, ◌+◌, ◌*◌, ◌/◌, ◌%◌, ◌≤◌, ◌<◌}
use mathlib.Core.Path.{◌≡◌, refl, ap, ◌∙◌}
use mathlib.Core.List.{List, [], ◌∷◌, ◌++◌}
use mathlib.Core.Logic.{◌⊎◌, inl, inr, ⊎_elim}
use mathlib.Core.Bool.{Bool, true, false}
use native.Mathlib.Omega.{arith}
use native.Mathlib.Numerals.{add-one}
use lib.ListN.{length, get_or, take}
use lib.Seq.{take-suc, length-take-le, get_or-take}
use lib.Dec.{eqb}
use borrow.Author.Tests.{eqb-true, eq-eqb, ne_eqb}
use Rattle.wire.specs.Pick.{pick}
use Rattle.wire.proofs.TestLaws.{means}
use Rattle.record.specs.Record.{content_at}
use Rattle.geometry.specs.Sizes.{plain_tile_length}
use Rattle.geometry.proofs.SizeLaws.{plain_eights}
use Rattle.lay_down.specs.Page.{compact_from}
use Rattle.lay_down.specs.Answer.{ascending}
use Rattle.lay_down.proofs.AscendLaws.{ascending_each}

-- the reference of a given tile is its content
pub compact_given :
    (f : List ℕ) (at n least : ℕ) (ix : List ℕ) → at % 8 ≡ 0 → ascending n least ix ≡ true → (k : ℕ) → k < length ix →
    compact_from f at ix (get_or ix k 0) * 8 ≡ content_at (at + k * plain_tile_length f)
unfolding compact_from ascending
compact_given f at n least [] a e k h = absurd (omega arith)
compact_given f at n least (i ∷ is) a e zero h = rw (eq-eqb i i refl) (omega arith)
compact_given f at n least (i ∷ is) a e (suc k) h =
    let b = means _ e in
    let r = ascending_each n (i + 1) is b.1.1.0 k (omega arith) in
    let p = compact_given f (at + plain_tile_length f) n (i + 1) is (omega (arith, plain_eights f)) b.1.1.0 k (omega arith) in
    rw (ne_eqb i (get_or is k 0) (λ z. omega (arith, r.0))) (p ∙ omega arith)

-- one tile more, behind all the others

compact_more :
    (f : List ℕ) (at : ℕ) (l : List ℕ) (i j : ℕ) → ((m : ℕ) → m < length l → get_or l m 0 < i) →
    compact_from f at (l ++ (i ∷ [])) j ≡ pick (eqb i j) (content_at (at + length l * plain_tile_length f) / 8) (compact_from f at l j)
unfolding compact_from
compact_more f at [] i j h = let e : at + 0 * plain_tile_length f ≡ at = omega arith in rw e
compact_more f at (x ∷ xs) i j h =
    let n = plain_tile_length f in
    let r = compact_more f (at + n) xs i j (λ m k. h (suc m) (omega arith)) in
    let a : at + n + length xs * n ≡ at + suc (length xs) * n = omega arith in
    go (eqb x j) refl (rw (← a) r)
  where
    go :
        (b : Bool) → eqb x j ≡ b →
        compact_from f (at + plain_tile_length f) (xs ++ (i ∷ [])) j
        ≡ pick (eqb i j) (content_at (at + suc (length xs) * plain_tile_length f) / 8) (compact_from f (at + plain_tile_length f) xs j) →
        pick b (content_at at / 8) (compact_from f (at + plain_tile_length f) (xs ++ (i ∷ [])) j)
        ≡ pick (eqb i j) (content_at (at + suc (length xs) * plain_tile_length f) / 8) (pick b (content_at at / 8) (compact_from f (at + plain_tile_length f) xs j))
    go true e r = let q : x ≡ j = eqb-true x j e in rw (ne_eqb i j (λ z. let k : x < i = h 0 (omega arith) in absurd (omega arith)))
    go false e r = r

pub compact_next :
    (f : List ℕ) (at : ℕ) (ix : List ℕ) (k : ℕ) → k < length ix → ((j : ℕ) → j < k → get_or ix j 0 < get_or ix k 0) → (j : ℕ) →
    compact_from f at (take (k + 1) ix) j ≡ pick (eqb (get_or ix k 0) j) (content_at (at + k * plain_tile_length f) / 8) (compact_from f at (take k ix) j)
compact_next f at ix k h o j =
    let l : length (take k ix) ≡ k = length-take-le k ix (omega arith) in
    let e : take (k + 1) ix ≡ take k ix ++ (get_or ix k 0 ∷ []) = ap (λ (n : ℕ). take n ix) (add-one k) ∙ take-suc ix k 0 h in
    let m =
    compact_more f at (take k ix) (get_or ix k 0) j (λ i c. let u = get_or-take k ix i 0 (omega arith) in omega (arith, o i (omega arith))) in
    rw e (rw l at m)

-- a tile is given as the one of that number, counted from 0
pub record Given (ix : List ℕ) (j : ℕ) : Type 0 where
  pub number : ℕ
  pub among : number < length ix
  pub index : get_or ix number 0 ≡ j

-- every other reference is zero
pub compact_found : (f : List ℕ) (at : ℕ) (ix : List ℕ) (j : ℕ) → (compact_from f at ix j ≡ 0) ⊎ Given ix j
unfolding compact_from
compact_found f at [] j = inl refl
compact_found f at (i ∷ is) j = go (eqb i j) refl (compact_found f (at + plain_tile_length f) is j)
  where
    go :
        (b : Bool) → eqb i j ≡ b → (compact_from f (at + plain_tile_length f) is j ≡ 0) ⊎ Given is j →
        (pick (eqb i j) (content_at at / 8) (compact_from f (at + plain_tile_length f) is j) ≡ 0) ⊎ Given (i ∷ is) j
    go true e r = inr (record { number = 0; among = omega arith; index = eqb-true i j e })
    go false e r =
        ⊎_elim (λ z. inl (rw e z)) (λ g. inr (record { number = suc g.number; among = omega (arith, g.among); index = g.index })) r

-- and none lies behind the last tile record's content
pub compact_most : (f : List ℕ) (at : ℕ) (ix : List ℕ) (j : ℕ) → compact_from f at ix j * 8 ≤ content_at (at + length ix * plain_tile_length f)
unfolding compact_from
compact_most f at [] j = omega arith
compact_most f at (i ∷ is) j = go (eqb i j) refl (compact_most f (at + plain_tile_length f) is j)
  where
    go :
        (b : Bool) → eqb i j ≡ b →
        compact_from f (at + plain_tile_length f) is j * 8 ≤ content_at (at + plain_tile_length f + length is * plain_tile_length f) →
        pick (eqb i j) (content_at at / 8) (compact_from f (at + plain_tile_length f) is j) * 8
        ≤ content_at (at + suc (length is) * plain_tile_length f)
    go true e r = rw e (omega arith)
    go false e r = rw e (omega arith)
