-- Bytes moved down over themselves. Assumes nothing.
use Prim.Native.Nat.{ℕ, zero, suc, ◌+◌, ◌≤◌, ◌<◌}
use mathlib.Core.Path.{◌≡◌, refl, sym, ap, ap₂, ◌∙◌}
use mathlib.Core.List.{List, [], ◌∷◌, ◌++◌}
use mathlib.Core.Logic.{inr}
use native.Mathlib.Omega.{arith}
use lib.ListN.{length, get_or, set, take, drop}
use Rattle.wire.specs.Bytes.{byte_at, part, put}
use Rattle.wire.proofs.ByteLaws.{part_in, part_length, part_split}
use Rattle.wire.proofs.PutLaws.{length_put, put_outside, put_one, put_put, put_nil}
use Rattle.stores.specs.Stores.{first_bytes}
use Rattle.stores.proofs.StoreLaws.{take_more}

pub part_none : (d : List ℕ) (from : ℕ) → from ≤ length d → part d from 0 ≡ []
part_none d from h = let l = part_length d from 0 (omega arith) in nothing (part d from 0) l
  where
    nothing : (v : List ℕ) → length v ≡ 0 → v ≡ []
    nothing [] e = refl
    nothing (x ∷ v) e = absurd (omega arith)

pub slid_none : (d : List ℕ) (to from : ℕ) → from ≤ length d → d ≡ put d to (part d from 0)
slid_none d to from h = sym (ap (put d to) (part_none d from h) ∙ put_nil d to)

part_one : (d : List ℕ) (at : ℕ) → at + 1 ≤ length d → part d at 1 ≡ get_or d at 0 ∷ []
part_one d at h = part_in d at 1 h ∙ go d at h
  where
    go : (d : List ℕ) (at : ℕ) → at + 1 ≤ length d → take 1 (drop at d) ≡ get_or d at 0 ∷ []
    go [] at h = absurd (omega arith)
    go (x ∷ []) zero h = refl
    go (x ∷ y ∷ d) zero h = refl
    go (x ∷ d) (suc at) h = go d at (omega arith)

pub slid_more :
    (d l : List ℕ) (to from i : ℕ) → l ≡ put d to (part d from i) → to ≤ from → from + i < length d →
    set l (to + i) (get_or l (from + i) 0) ≡ put d to (part d from (i + 1))
unfolding byte_at
slid_more d l to from i e h g =
    let v = part d from i in
    let n : length v ≡ i = part_length d from i (omega arith) in
    let a : get_or d (from + i) 0 ≡ get_or (put d to v) (from + i) 0 = put_outside d to v (from + i) (inr (omega arith)) in
    let b : get_or l (from + i) 0 ≡ get_or d (from + i) 0 = ap (λ (x : List ℕ). get_or x (from + i) 0) e ∙ sym a in
    let w = get_or d (from + i) 0 ∷ [] in
    let m : length l ≡ length d = ap length e ∙ length_put d to v in
    let q : to + i ≡ to + length v = omega arith in
    ap (set l (to + i)) b ∙ put_one l (to + i) (get_or d (from + i) 0) (omega arith)
    ∙ ap₂ (λ (x : List ℕ) (j : ℕ). put x j w) e q
    ∙ put_put d to v w (omega arith)
    ∙ ap (λ (x : List ℕ). put d to (v ++ x)) (sym (part_one d (from + i) (omega arith)))
    ∙ ap (put d to) (sym (part_split d from i 1 (omega arith)))

pub slid_all : (d l : List ℕ) (to from i n : ℕ) → l ≡ put d to (part d from i) → i ≤ n → n ≤ i → l ≡ put d to (part d from n)
slid_all d l to from i n e g h = let q : i ≡ n = omega arith in rw q at e

-- cut short
shorter : (k n : ℕ) (v : List ℕ) → k ≤ n → take k v ≡ take k (take n v)
shorter zero n v h = take_nothing v ∙ sym (take_nothing (take n v))
  where
    take_nothing : (v : List ℕ) → take 0 v ≡ []
    take_nothing [] = refl
    take_nothing (x ∷ v) = refl
shorter (suc k) zero v h = absurd (omega arith)
shorter (suc k) (suc n) [] h = refl
shorter (suc k) (suc n) (x ∷ v) h = ap (λ (l : List ℕ). x ∷ l) (shorter k n v (omega arith))

pub part_first : (d : List ℕ) (from k n : ℕ) → k ≤ n → from + n ≤ length d → part d from k ≡ first_bytes k (part d from n)
unfolding first_bytes
part_first d from k n h g =
    part_in d from k (omega arith) ∙ shorter k n (drop from d) h ∙ ap (take k) (sym (part_in d from n g))

pub part_all : (d : List ℕ) (from k n : ℕ) → n ≤ k → from + n ≤ length d → part d from n ≡ first_bytes k (part d from n)
unfolding first_bytes
part_all d from k n h g = sym (take_more k (part d from n) (omega (arith, part_length d from n g)))
