-- Two cells compared, and the first refusal of two. Assumes nothing.
use Rattle.std.specs.Prelude.{Err, Ok, Result, ⊤}
use Prim.Native.Nat.{ℕ, ◌≤◌, ◌<◌}
use mathlib.Core.Path.{◌≡◌, refl, sym, ap, ◌∙◌}
use mathlib.Core.List.{[], ◌∷◌}
use mathlib.Core.Bool.{Bool, true, false, not}
use native.Mathlib.Omega.{arith}
use lib.Dec.{eqb}
use borrow.Author.Tests.{eqb-true, eqb-false, eq-eqb, ne_eqb}
use Rattle.wire.specs.Tests.{◌≡?◌, passes}
use Rattle.wire.proofs.TestLaws.{not_both, means, yes, no}
use Rattle.answer.specs.declared.Refusal.{Refusal}
use Rattle.answer.specs.declared.Cell.{Cell}
use Rattle.answer.specs.Answers.{cell_kind, cell_bits, cell_verdict}
use Rattle.blocks.specs.Folds.{fold_below, Joins}
use Rattle.blocks.proofs.FoldLaws.{fold_none, fold_first, fold_each}
use Rattle.comparisons.specs.declared.Comparison.{Comparison}
use Rattle.comparisons.specs.declared.Comparison.TheVariants.{First, Second, Unlike}
use Rattle.comparisons.specs.declared.Halt.{Halt}
use Rattle.comparisons.specs.declared.Halt.TheVariants as halt
use Rattle.comparisons.specs.Comparisons.{compared_kind, differ, join_halt, first_halt, second_halt, cell_halt, unless_halted}

-- the kind that is compared

module _ (x : Result Cell Refusal) (k : ℕ) (e : k ≡ cell_kind x) where
  pub kind_packed : k ≡ 34 → 32 ≡ compared_kind x
  unfolding compared_kind
  kind_packed h = rw (← e, h)

  pub kind_other : (k ≡ 34 → ⊥) → k ≡ compared_kind x
  unfolding compared_kind
  kind_other h = rw (← e, ne_eqb k 34 h)

pub same_kind : (x y : Result Cell Refusal) → cell_kind x ≡ cell_kind y → compared_kind x ≡ compared_kind y
unfolding compared_kind
same_kind x y e = rw e

-- whether two cells differ

module _ (x y : Result Cell Refusal) where
  pub differ_kind : (compared_kind x ≡ compared_kind y → ⊥) → differ x y ≡ true
  unfolding differ
  differ_kind f = rw (← no ((compared_kind x ≡? compared_kind y) ∷ (cell_bits x ≡? cell_bits y) ∷ []) (λ h. f h.0))

  pub differ_bits : compared_kind x ≡ compared_kind y → differ x y ≡ not (eqb (cell_bits x) (cell_bits y))
  unfolding differ
  differ_bits e = go (eqb (cell_bits x) (cell_bits y)) refl
    where
      go : (b : Bool) → eqb (cell_bits x) (cell_bits y) ≡ b → not (passes ((compared_kind x ≡? compared_kind y) ∷ (cell_bits x ≡? cell_bits y) ∷ [])) ≡ not (eqb (cell_bits x) (cell_bits y))
      go true f = rw (f, ← yes ((compared_kind x ≡? compared_kind y) ∷ (cell_bits x ≡? cell_bits y) ∷ []) (e, (eqb-true (cell_bits x) (cell_bits y) f, tt)))
      go false f = rw (f, ← no ((compared_kind x ≡? compared_kind y) ∷ (cell_bits x ≡? cell_bits y) ∷ []) (λ h. eqb-false (cell_bits x) (cell_bits y) f h.1.0))

-- as the functions below give it
module _ (x y : Result Cell Refusal) (u v : ℕ) (p : u ≡ compared_kind x) (q : v ≡ compared_kind y) where
  pub kinds_differ : (u ≡ v → ⊥) → true ≡ differ x y
  kinds_differ f = sym (differ_kind x y (λ e. f (p ∙ e ∙ sym q)))

  pub bits_differ : (m n : ℕ) → u ≡ v → m ≡ cell_bits x → n ≡ cell_bits y → not (eqb m n) ≡ differ x y
  bits_differ m n e f g = rw (f, g) (sym (differ_bits x y (sym p ∙ e ∙ q)))

pub differ_swapped : (x y : Result Cell Refusal) → differ x y ≡ differ y x
unfolding differ
differ_swapped x y = ap not (either (passes ((compared_kind x ≡? compared_kind y) ∷ (cell_bits x ≡? cell_bits y) ∷ [])) refl (passes ((compared_kind y ≡? compared_kind x) ∷ (cell_bits y ≡? cell_bits x) ∷ [])) refl)
  where
    either :
        (a : Bool) → passes ((compared_kind x ≡? compared_kind y) ∷ (cell_bits x ≡? cell_bits y) ∷ []) ≡ a → (b : Bool) →
        passes ((compared_kind y ≡? compared_kind x) ∷ (cell_bits y ≡? cell_bits x) ∷ []) ≡ b →
        passes ((compared_kind x ≡? compared_kind y) ∷ (cell_bits x ≡? cell_bits y) ∷ []) ≡ passes ((compared_kind y ≡? compared_kind x) ∷ (cell_bits y ≡? cell_bits x) ∷ [])
    either true p true q = p ∙ sym q
    either false p false q = p ∙ sym q
    either true p false q = let h = means _ p in not_both (sym (yes ((compared_kind y ≡? compared_kind x) ∷ (cell_bits y ≡? cell_bits x) ∷ []) (sym h.0, (sym h.1.0, tt)))) q
    either false p true q = let h = means _ q in not_both (sym (yes ((compared_kind x ≡? compared_kind y) ∷ (cell_bits x ≡? cell_bits y) ∷ []) (sym h.0, (sym h.1.0, tt)))) p

pub differ_same : (x : Result Cell Refusal) → differ x x ≡ false
differ_same x = differ_bits x x refl ∙ rw (eq-eqb (cell_bits x) (cell_bits x) refl)

-- the first refusal

pub halts : Joins join_halt halt.None
unfolding join_halt
halts = record { unit_left = λ x. refl; unit_right = right; assoc = assoc }
  where
    right : (x : Halt) → join_halt x halt.None ≡ x
    right halt.None = refl
    right (halt.First r) = refl
    right (halt.Second r) = refl

    assoc : (x y z : Halt) → join_halt (join_halt x y) z ≡ join_halt x (join_halt y z)
    assoc halt.None y z = refl
    assoc (halt.First r) y z = refl
    assoc (halt.Second r) y z = refl

pub halt_stays : (h : Halt) → (h ≡ halt.None → ⊥) → (y : Halt) → join_halt h y ≡ h
unfolding join_halt
halt_stays halt.None f y = absurd (f refl)
halt_stays (halt.First r) f y = refl
halt_stays (halt.Second r) f y = refl

pub halts_none : (x y : Halt) → join_halt x y ≡ halt.None → (x ≡ halt.None) × (y ≡ halt.None)
unfolding join_halt
halts_none halt.None y e = (refl, e)
halts_none (halt.First r) y e = let z : ◌≡◌ {A = ℕ} 0 1 = cc in absurd (omega arith)
halts_none (halt.Second r) y e = let z : ◌≡◌ {A = ℕ} 0 1 = cc in absurd (omega arith)

pub first_not : (h : Halt) (r : Refusal) → h ≡ halt.First r → h ≡ halt.None → ⊥
first_not h r e f = let z : ◌≡◌ {A = ℕ} 0 1 = cc in omega arith

pub second_not : (h : Halt) (r : Refusal) → h ≡ halt.Second r → h ≡ halt.None → ⊥
second_not h r e f = let z : ◌≡◌ {A = ℕ} 0 1 = cc in omega arith

-- of two cells
module _ (x y : Result Cell Refusal) (v : Result ⊤ Refusal) (p : v ≡ cell_verdict x) where
  pub halt_first : (r : Refusal) → v ≡ Err r → halt.First r ≡ cell_halt x y
  unfolding cell_halt join_halt first_halt
  halt_first r e = rw (← p, e)

  module _ (w : Result ⊤ Refusal) (q : w ≡ cell_verdict y) (e : v ≡ Ok tt) where
    pub halt_second : (r : Refusal) → w ≡ Err r → halt.Second r ≡ cell_halt x y
    unfolding cell_halt join_halt first_halt second_halt
    halt_second r f = rw (← p, e, ← q, f)

    pub halt_none : w ≡ Ok tt → halt.None ≡ cell_halt x y
    unfolding cell_halt join_halt first_halt second_halt
    halt_none f = rw (← p, e, ← q, f)

-- where none of two is refused, neither is
pub none_halts : (x y : Result Cell Refusal) → cell_halt x y ≡ halt.None → (cell_verdict x ≡ Ok tt) × (cell_verdict y ≡ Ok tt)
unfolding cell_halt join_halt first_halt second_halt
none_halts x y e = go (cell_verdict x) refl (cell_verdict y) refl
  where
    go : (v : Result ⊤ Refusal) → cell_verdict x ≡ v → (w : Result ⊤ Refusal) → cell_verdict y ≡ w → (cell_verdict x ≡ Ok tt) × (cell_verdict y ≡ Ok tt)
    go (Ok accepted) p (Ok also) q = (p, q)
    go (Ok accepted) p (Err r) q =
        let f : join_halt (first_halt (cell_verdict x)) (second_halt (cell_verdict y)) ≡ halt.Second r = rw (p, q) in
        let z : ◌≡◌ {A = ℕ} 0 1 = cc in
        absurd (omega arith)
    go (Err r) p w q =
        let f : join_halt (first_halt (cell_verdict x)) (second_halt (cell_verdict y)) ≡ halt.First r = rw p in
        let z : ◌≡◌ {A = ℕ} 0 1 = cc in
        absurd (omega arith)

-- many, in their order

module _ (f : ℕ → Halt) (n : ℕ) where
  pub halt_here : (i : ℕ) (h : Halt) → ((k : ℕ) → k < i → f k ≡ halt.None) → i < n → h ≡ f i → (h ≡ halt.None → ⊥) → h ≡ fold_below join_halt halt.None n f
  halt_here i h a l e b = sym (fold_first join_halt halt.None halts n i f h l a (sym e) (halt_stays h b))

  pub halt_nowhere : (i : ℕ) → ((k : ℕ) → k < i → f k ≡ halt.None) → n ≤ i → halt.None ≡ fold_below join_halt halt.None n f
  halt_nowhere i a l = sym (fold_none join_halt halt.None halts n f (λ k h. a k (omega arith)))

  pub halt_each : fold_below join_halt halt.None n f ≡ halt.None → (k : ℕ) → k < n → f k ≡ halt.None
  halt_each e k h = fold_each join_halt halt.None halts_none n f e k h

-- a refusal as an answer

pub halted_says : (h : Halt) (x : Comparison) → (h ≡ halt.None → ⊥) → unless_halted h Unlike ≡ unless_halted h x
unfolding unless_halted
halted_says halt.None x f = absurd (f refl)
halted_says (halt.First r) x f = refl
halted_says (halt.Second r) x f = refl

-- cells with the same verdicts have the same refusal
pub halt_alike : (x y u v : Result Cell Refusal) → cell_verdict x ≡ cell_verdict u → cell_verdict y ≡ cell_verdict v → cell_halt x y ≡ cell_halt u v
unfolding cell_halt
halt_alike x y u v e f = rw (e, f)

-- an answer for a refusal, as the function gives it

pub halted_none : (h : Halt) → h ≡ halt.None → Unlike ≡ unless_halted h Unlike
unfolding unless_halted
halted_none h e = rw e

pub halted_first : (h : Halt) (r : Refusal) → h ≡ halt.First r → First r ≡ unless_halted h Unlike
unfolding unless_halted
halted_first h r e = rw e

pub halted_second : (h : Halt) (r : Refusal) → h ≡ halt.Second r → Second r ≡ unless_halted h Unlike
unfolding unless_halted
halted_second h r e = rw e

pub unless_none : (h : Halt) (x : Comparison) → h ≡ halt.None → x ≡ unless_halted h x
unfolding unless_halted
unless_none h x e = rw e
