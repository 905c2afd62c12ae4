-- Items one behind the other. Assumes nothing.
use Prim.Native.Nat.{ℕ, zero, suc, ◌+◌, ◌*◌, ◌-◌, ◌≤◌, ◌<◌}
use mathlib.Core.Path.{◌≡◌, refl, sym, ap, ◌∙◌}
use mathlib.Core.Bool.{Bool, true, false}
use mathlib.Core.Logic.{◌⊎◌, inl, inr, by_cases}
use native.Mathlib.Decide.{dec_le}
use native.Mathlib.Omega.{arith}
use native.Mathlib.Numerals.{add-one}
use native.Mathlib.Nat.{mul-le-mul_right}
use lib.Dec.{leb}
use borrow.Author.Tests.{leb-true, leb-false, le-leb, lt-leb}
use Rattle.wire.specs.Pick.{pick}
use Rattle.wire.specs.Items.{advance}

module _ (next : ℕ → ℕ) (limit : ℕ) where
  pub advance_none : (at : ℕ) → advance next limit 0 at ≡ at
  unfolding advance
  advance_none at = refl

  pub advance_step : (k at : ℕ) → at ≤ limit → advance next limit (k + 1) at ≡ advance next limit k (next at)
  unfolding advance
  advance_step k at h = rw (add-one, advance, le-leb at limit h)

  pub advance_stop : (k at : ℕ) → limit < at → advance next limit k at ≡ at
  unfolding advance
  advance_stop zero at h = refl
  advance_stop (suc k) at h = rw (advance, lt-leb at limit h)

  -- the last item instead of the first
  pub advance_more : (k at : ℕ) → advance next limit (k + 1) at ≡ pick (leb (advance next limit k at) limit) (next (advance next limit k at)) (advance next limit k at)
  advance_more zero at = go (leb at limit) refl
    where
      go : (b : Bool) → leb at limit ≡ b → advance next limit (0 + 1) at ≡ pick (leb (advance next limit 0 at) limit) (next (advance next limit 0 at)) (advance next limit 0 at)
      go true e = rw (advance_step 0 at (leb-true _ _ e), advance_none at, e, advance_none (next at))
      go false e = rw (advance_stop (0 + 1) at (leb-false _ _ e), advance_none at, e)
  advance_more (suc k) at = go (leb at limit) refl (advance_more k (next at))
    where
      go :
          (b : Bool) → leb at limit ≡ b →
          advance next limit (k + 1) (next at) ≡ pick (leb (advance next limit k (next at)) limit) (next (advance next limit k (next at))) (advance next limit k (next at)) →
          advance next limit (suc k + 1) at ≡ pick (leb (advance next limit (suc k) at) limit) (next (advance next limit (suc k) at)) (advance next limit (suc k) at)
      go true e r =
          let h : at ≤ limit = leb-true _ _ e in
          let p : advance next limit (suc k) at ≡ advance next limit k (next at) = rw (← add-one k) (advance_step k at h) in
          rw (advance_step (suc k) at h, p, ← add-one k) r
      go false e r =
          let h : limit < at = leb-false _ _ e in
          rw (advance_stop (suc k + 1) at h, advance_stop (suc k) at h, e)

  -- items that only move forward

  module _ (grows : (at : ℕ) → at ≤ next at) where
    pub advance_grows : (k at : ℕ) → at ≤ advance next limit k at
    advance_grows zero at = rw (advance_none at) (omega arith)
    advance_grows (suc k) at = go (leb at limit) refl (advance_grows k (next at))
      where
        go : (b : Bool) → leb at limit ≡ b → next at ≤ advance next limit k (next at) → at ≤ advance next limit (suc k) at
        go true e r = rw (← add-one k) (rw (advance_step k at (leb-true _ _ e)) (omega (arith, grows at)))
        go false e r = rw (advance_stop (suc k) at (leb-false _ _ e)) (omega arith)

-- two ways to find the next item that agree on every item from a on that ends by the limit
module _ (next other : ℕ → ℕ) (limit a : ℕ) (grows : (at : ℕ) → at ≤ next at) (same : (at : ℕ) → a ≤ at → next at ≤ limit → next at ≡ other at) where
  pub advance_same : (k at : ℕ) → a ≤ at → advance next limit k at ≤ limit → advance next limit k at ≡ advance other limit k at
  advance_same zero at l h = advance_none next limit at ∙ sym (advance_none other limit at)
  advance_same (suc k) at l h = go (leb at limit) refl (advance_same k (next at))
    where
      go :
          (b : Bool) → leb at limit ≡ b →
          (a ≤ next at → advance next limit k (next at) ≤ limit → advance next limit k (next at) ≡ advance other limit k (next at)) →
          advance next limit (suc k) at ≡ advance other limit (suc k) at
      go true e r =
          let i : at ≤ limit = leb-true _ _ e in
          let p : advance next limit (suc k) at ≡ advance next limit k (next at) = rw (← add-one k) (advance_step next limit k at i) in
          let q : advance other limit (suc k) at ≡ advance other limit k (other at) = rw (← add-one k) (advance_step other limit k at i) in
          let m : advance next limit k (next at) ≤ limit = omega arith in
          let g : next at ≤ advance next limit k (next at) = advance_grows next limit grows k (next at) in
          let n : next at ≡ other at = same at l (omega arith) in
          p ∙ r (omega (arith, grows at)) m ∙ ap (advance other limit k) n ∙ sym q
      go false e r = let i : limit < at = leb-false _ _ e in advance_stop next limit (suc k) at i ∙ sym (advance_stop other limit (suc k) at i)

-- more items end further on
module _ (next : ℕ → ℕ) (limit : ℕ) (grows : (at : ℕ) → at ≤ next at) where
  pub advance_further : (k at : ℕ) → advance next limit k at ≤ advance next limit (k + 1) at
  advance_further k at = rw (advance_more next limit k at) (go (leb (advance next limit k at) limit))
    where
      go : (b : Bool) → advance next limit k at ≤ pick b (next (advance next limit k at)) (advance next limit k at)
      go true = grows _
      go false = omega arith

  pub advance_mono : (j d at : ℕ) → advance next limit j at ≤ advance next limit (j + d) at
  advance_mono j zero at = let e : j + 0 ≡ j = omega arith in rw e (omega arith)
  advance_mono j (suc d) at =
      let e : j + suc d ≡ j + d + 1 = omega arith in
      rw e (omega (arith, advance_mono j d at, advance_further (j + d) at))

-- a loop over items of which so many are left

module _ (next : ℕ → ℕ) (limit left at : ℕ) where
  pub items_step : (b x : ℕ) → advance next limit left at ≡ x → 0 < left → at ≤ limit → b ≡ next at → advance next limit (left - 1) b ≡ x
  items_step b x e h k p =
      let m : left ≡ left - 1 + 1 = omega arith in
      rw p (sym (advance_step next limit (left - 1) at k) ∙ ap (λ (n : ℕ). advance next limit n at) (sym m) ∙ e)

  pub items_stop : (x : ℕ) → advance next limit left at ≡ x → limit < at → at ≡ x
  items_stop x e h = sym (advance_stop next limit left at h) ∙ e

  pub items_end : (x : ℕ) → advance next limit left at ≡ x → left ≤ 0 → at ≡ x
  items_end x e h =
      let z : left ≡ 0 = omega arith in
      sym (advance_none next limit at) ∙ ap (λ (n : ℕ). advance next limit n at) (sym z) ∙ e

-- of n items of one size, each ends among them
pub item_within : (n k z : ℕ) → k < n → k * z + z ≤ n * z
item_within n k z h = let m : (k + 1) * z ≤ n * z = mul-le-mul_right z (omega arith) in omega arith

-- two items of one size are one, or share nothing
pub items_apart : (j k z : ℕ) → (j ≡ k) ⊎ ((j * z + z ≤ k * z) ⊎ (k * z + z ≤ j * z))
items_apart j k z =
    by_cases (dec_le (j + 1) k) (λ h. inr (inl (item_within k j z (omega arith))))
    (λ h. by_cases (dec_le (k + 1) j) (λ i. inr (inr (item_within j k z (omega arith)))) (λ i. inl (omega arith)))
