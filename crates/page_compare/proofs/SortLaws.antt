-- How the cells of a piece differ in an element, from what its first ones are. Assumes nothing.
use Rattle.std.specs.Prelude.{Result}
use Rattle.answer.specs.declared.Refusal.{Refusal}
use Prim.Native.Nat.{ℕ}
use mathlib.Core.Path.{◌≡◌, refl, sym, ◌∙◌}
use mathlib.Core.Bool.{Bool, true, false}
use lib.Dec.{eqb}
use borrow.Author.Tests.{eqb-true, eqb-false, eq-eqb, ne_eqb}
use Rattle.wire.specs.Pick.{pick}
use Rattle.wire.specs.Lists.{one_if}
use Rattle.answer.specs.declared.Cell.{Cell}
use Rattle.answer.specs.Answers.{cell_kind, cell_bits}
use Rattle.comparisons.specs.Comparisons.{compared_kind, differ}
use Rattle.comparisons.proofs.CellLaws.{same_kind, differ_kind, differ_bits}
use Rattle.page_compare.specs.Sides.{sort_of}

module _ (absent : Bool) (u v : Result Cell Refusal) where
  -- as the function below gives it
  module _ (k l : ℕ) (p : k ≡ compared_kind u) (q : l ≡ compared_kind v) where
    pub sort_kinds : (k ≡ l → ⊥) → 1 ≡ sort_of absent u v
    unfolding sort_of
    sort_kinds f = rw (ne_eqb (compared_kind u) (compared_kind v) (λ e. f (p ∙ e ∙ sym q)))

    pub sort_each : k ≡ l → absent ≡ false → 2 ≡ sort_of absent u v
    unfolding sort_of
    sort_each e b = rw (eq-eqb (compared_kind u) (compared_kind v) (sym p ∙ e ∙ q), b)

    module _ (m n : ℕ) (e : k ≡ l) (b : absent ≡ true) (f : m ≡ cell_bits u) (g : n ≡ cell_bits v) where
      pub sort_none : m ≡ n → 0 ≡ sort_of absent u v
      unfolding sort_of
      sort_none h = rw (eq-eqb (compared_kind u) (compared_kind v) (sym p ∙ e ∙ q), b, eq-eqb (cell_bits u) (cell_bits v) (sym f ∙ h ∙ g))

      pub sort_all : (m ≡ n → ⊥) → 1 ≡ sort_of absent u v
      unfolding sort_of
      sort_all h = rw (eq-eqb (compared_kind u) (compared_kind v) (sym p ∙ e ∙ q), b, ne_eqb (cell_bits u) (cell_bits v) (λ z. h (f ∙ z ∙ sym g)))

  -- what it says of cells of the same kinds, where absent ones have the same bits
  pub sort_says :
      (x y : Result Cell Refusal) → cell_kind x ≡ cell_kind u → cell_kind y ≡ cell_kind v → (absent ≡ true → (cell_bits x ≡ cell_bits u) × (cell_bits y ≡ cell_bits v)) → (sort_of absent u v ≡ 2 → ⊥) →
      one_if (differ x y) ≡ sort_of absent u v
  unfolding sort_of one_if
  sort_says x y p q w n = go (eqb (compared_kind u) (compared_kind v)) refl absent refl (eqb (cell_bits u) (cell_bits v)) refl
    where
      a : compared_kind x ≡ compared_kind u
      a = same_kind x u p

      b : compared_kind y ≡ compared_kind v
      b = same_kind y v q

      go :
          (f : Bool) → eqb (compared_kind u) (compared_kind v) ≡ f → (g : Bool) → absent ≡ g → (h : Bool) → eqb (cell_bits u) (cell_bits v) ≡ h →
          ◌≡◌ {A = ℕ} (pick (differ x y) 1 0) (pick (eqb (compared_kind u) (compared_kind v)) (pick absent (pick (eqb (cell_bits u) (cell_bits v)) 0 1) 2) 1)
      go false e g z h c = rw (e, differ_kind x y (λ o. eqb-false (compared_kind u) (compared_kind v) e (sym a ∙ o ∙ b)))
      go true e false z h c = absurd (n (rw (e, z)))
      go true e true z true c = let o = w z in rw (e, z, c, differ_bits x y (a ∙ eqb-true (compared_kind u) (compared_kind v) e ∙ sym b), o.0, o.1, c)
      go true e true z false c = let o = w z in rw (e, z, c, differ_bits x y (a ∙ eqb-true (compared_kind u) (compared_kind v) e ∙ sym b), o.0, o.1, c)
