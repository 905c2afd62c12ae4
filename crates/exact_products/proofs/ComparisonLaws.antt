-- Req 09 and Req 10: when two cells differ, and what an entry of the list says. Assumes nothing.
use Rattle.std.specs.Prelude.{Result}
use Rattle.answer.specs.declared.Refusal.{Refusal}
use mathlib.Core.Path.{◌≡◌, refl, sym, ap, ◌∙◌}
use mathlib.Core.Logic.{◌⊎◌, inl, inr, ⊎_elim}
use mathlib.Core.List.{[], ◌∷◌}
use mathlib.Core.Bool.{Bool, true, false, not}
use lib.Dec.{eqb}
use borrow.Author.Tests.{eqb-true}
use Rattle.wire.specs.Pick.{pick}
use Rattle.wire.specs.Tests.{◌≡?◌, passes}
use Rattle.wire.proofs.TestLaws.{means, yes, not_both}
use Rattle.answer.specs.declared.Cell.{Cell}
use Rattle.answer.specs.Answers.{cell_kind, cell_bits}
use Rattle.cells.proofs.DemandLaws.{demand_3}
use Rattle.comparisons.specs.Comparisons.{compared_kind, differ, tiling_of}
use Rattle.exact_products.specs.Comparisons.{IsHeld, DifferExactly, ListedWhere}

-- the kind that is compared

held_kind_lem : (x : Result Cell Refusal) → IsHeld x → compared_kind x ≡ 32
unfolding compared_kind
held_kind_lem x h = ⊎_elim (λ e. rw e refl) (λ e. rw e refl) h

kind_held : (x : Result Cell Refusal) → (cell_kind x ≡ 34) ⊎ (compared_kind x ≡ cell_kind x)
unfolding compared_kind
kind_held x = go (eqb (cell_kind x) 34) refl
  where
    go : (b : Bool) → eqb (cell_kind x) 34 ≡ b → (cell_kind x ≡ 34) ⊎ (pick (eqb (cell_kind x) 34) 32 (cell_kind x) ≡ cell_kind x)
    go true e = inl (eqb-true (cell_kind x) 34 e)
    go false e = inr (rw e)

module _ (x y : Result Cell Refusal) where
  same_compared : (IsHeld x × IsHeld y) ⊎ (cell_kind x ≡ cell_kind y) → compared_kind x ≡ compared_kind y
  unfolding compared_kind
  same_compared h = ⊎_elim (λ p. held_kind_lem x p.0 ∙ sym (held_kind_lem y p.1)) (λ e. rw e) h

  compared_same : compared_kind x ≡ compared_kind y → (IsHeld x × IsHeld y) ⊎ (cell_kind x ≡ cell_kind y)
  compared_same e =
      ⊎_elim
      (λ a.
      ⊎_elim (λ b. inr (a ∙ sym b)) (λ b. inl (inr a, inl (sym b ∙ sym e ∙ held_kind_lem x (inr a)))) (kind_held y))
      (λ a.
      ⊎_elim (λ b. inl (inl (sym a ∙ e ∙ held_kind_lem y (inr b)), inr b)) (λ b. inr (sym a ∙ e ∙ b)) (kind_held y))
      (kind_held x)

  abbrev both : Bool
  both = passes ((compared_kind x ≡? compared_kind y) ∷ (cell_bits x ≡? cell_bits y) ∷ [])

  not_differ : differ x y ≡ false → both ≡ true
  unfolding differ
  not_differ e = go both refl
    where
      go : (b : Bool) → both ≡ b → both ≡ true
      go true f = f
      go false f = not_both (ap not f) e

  differ_not : both ≡ true → differ x y ≡ false
  unfolding differ
  differ_not e = rw e

pub differ_exactly : DifferExactly
differ_exactly x y = (
  (λ e. let m = means _ (not_differ x y e) in record { kinds = compared_same x y m.0; bits = m.1.0 }),
  (λ w. differ_not x y (sym (yes ((compared_kind x ≡? compared_kind y) ∷ (cell_bits x ≡? cell_bits y) ∷ []) (same_compared x y w.kinds, (w.bits, tt))))),
)

pub listed_where : ListedWhere
unfolding tiling_of
listed_where s k x a v =
    let l = (demand_3 s a k).located x.row x.column x.element v in
    rw (l.0, l.1)
