-- A value by its type code, and its bits: a bit pattern in, the same bit pattern out. Assumes nothing.
use Prim.Native.Nat.{ℕ, ◌%◌, ◌^◌, ◌≤◌, ◌<◌}
use mathlib.Core.Path.{◌≡◌, refl, sym, ap, ◌∙◌}
use mathlib.Core.Bool.{Bool, true, false}
use native.Mathlib.Omega.{arith}
use native.Mathlib.Nat.{mod-eq_of_lt}
use lib.IntN.{ℤ}
use lib.Ieee.{Float, of_bits, binary32}
use lib.Dec.{eqb}
use mir.Syntax.{Width, w16, w32}
use mir.Val.{to_z, of_z, Fits, SFits, hbits}
use mir.Facts.{of_z-to_z, to_z-of_z}
use lib.Signed.{mag}
use borrow.Author.Tests.{eq-eqb, ne_eqb, eqb-true, eqb-false}
use Rattle.answer.specs.declared.Value.TheVariants as value
use Rattle.answer.specs.Values.{value_of, value_type, value_bits}
use Rattle.answer.proofs.SignedLaws.{kept}

-- by the tests on the code

pub value_coded : (k n : ℕ) (r : ℤ) → k ≡ 1 → Fits w32 n → r ≡ to_z w32 n → value.IntegerCoded (to_z w32 (of_z w32 r)) ≡ value_of k n
unfolding value_of
value_coded k n r h f e = rw (eq-eqb k 1 h) (ap value.IntegerCoded (kept w32 f e))

pub value_float : (k n : ℕ) (x : Float) → (k ≡ 1 → ⊥) → k ≡ 2 → x ≡ of_bits binary32 n → value.Float x n ≡ value_of k n
unfolding value_of
value_float k n x g h e = rw (ne_eqb k 1 g, eq-eqb k 2 h, e)

pub value_short :
    (k n : ℕ) (r : ℤ) → (k ≡ 1 → ⊥) → (k ≡ 2 → ⊥) → k ≡ 3 → r ≡ to_z w16 (n % 65536) →
    value.Short (to_z w16 (of_z w16 r)) ≡ value_of k n
unfolding value_of
value_short k n r g g' h e =
    rw (ne_eqb k 1 g, ne_eqb k 2 g', eq-eqb k 3 h) (let f : Fits w16 (n % 65536) = record { fits = omega arith } in ap value.Short (kept w16 f e))

pub value_integer :
    (k n : ℕ) (r : ℤ) → (k ≡ 1 → ⊥) → (k ≡ 2 → ⊥) → (k ≡ 3 → ⊥) → Fits w32 n → r ≡ to_z w32 n →
    value.Integer (to_z w32 (of_z w32 r)) ≡ value_of k n
unfolding value_of
value_integer k n r g g' g'' f e = rw (ne_eqb k 1 g, ne_eqb k 2 g', ne_eqb k 3 g'') (ap value.Integer (kept w32 f e))

-- a bit pattern in, the same bit pattern out, a NaN's too: of 32 bits, and of a Short its 16
pub bits_kept : (k n : ℕ) → (k ≡ 3 → ⊥) → n < 2 ^ 32 → value_bits (value_of k n) ≡ n
unfolding value_of
bits_kept k n g h = go (eqb k 1) refl (eqb k 2) refl
  where
    go : (a : Bool) → eqb k 1 ≡ a → (b : Bool) → eqb k 2 ≡ b → value_bits (value_of k n) ≡ n
    go true p b q = rw p (of_z-to_z {w = w32} (record { fits = h }))
    go false p true q = rw (p, q)
    go false p false q = rw (p, q, ne_eqb k 3 g) (of_z-to_z {w = w32} (record { fits = h }))

pub short_bits_kept : (k n : ℕ) → k ≡ 3 → n < 2 ^ 16 → value_bits (value_of k n) ≡ n
unfolding value_of
short_bits_kept k n e h = rw e (ap (λ (m : ℕ). of_z w16 (to_z w16 m)) (mod-eq_of_lt h) ∙ of_z-to_z {w = w16} (record { fits = h }))

-- a Short has no more than 16 bits
pub short_small : (k n : ℕ) → k ≡ 3 → value_bits (value_of k n) < 65536
unfolding value_of
short_small k n e = let f : Fits w16 (n % 65536) = record { fits = omega arith } in rw (e, of_z-to_z {w = w16} f) (omega arith)

-- and the type code stays
pub type_kept : (k n : ℕ) → k ≤ 3 → value_type (value_of k n) ≡ k
unfolding value_of
type_kept k n h = go (eqb k 1) refl (eqb k 2) refl (eqb k 3) refl
  where
    go : (a : Bool) → eqb k 1 ≡ a → (b : Bool) → eqb k 2 ≡ b → (c : Bool) → eqb k 3 ≡ c → value_type (value_of k n) ≡ k
    go true p b q c r = rw p (sym (eqb-true k 1 p))
    go false p true q c r = rw (p, q) (sym (eqb-true k 2 q))
    go false p false q true r = rw (p, q, r) (sym (eqb-true k 3 r))
    go false p false q false r =
        let x = eqb-false k 1 p in
        let y = eqb-false k 2 q in
        let z = eqb-false k 3 r in
        rw (p, q, r) (omega arith)

-- the bits of an integer that a case holds: what the machine keeps of it is the number itself
pub held : (w : Width) (z : ℤ) {r : ℕ} → mag z < 2 ^ hbits w → r ≡ of_z w (to_z w (of_z w z)) → r ≡ of_z w z
held w z f e = let g : SFits w z = record { sfits = f } in e ∙ ap (of_z w) (to_z-of_z g)
