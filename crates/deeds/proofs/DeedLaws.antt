-- The answer, by its tests in their order, and what it says in numbers. Assumes nothing.
use Rattle.std.specs.Prelude.{Err, Ok, Result, ⊤}
use Prim.Native.Nat.{ℕ, ◌≤◌}
use mathlib.Core.Path.{◌≡◌, sym, ◌∙◌}
use mathlib.Core.List.{List, [], ◌∷◌}
use mathlib.Core.Bool.{Bool, true, false}
use native.Mathlib.Omega.{arith}
use lib.Dec.{eqb}
use borrow.Author.Tests.{eqb-true, eqb-false}
use Rattle.wire.specs.Tests.{◌≤?◌, ◌≡?◌}
use Rattle.wire.proofs.TestLaws.{yes, no, either_way}
use Rattle.answer.specs.declared.Refusal.{Refusal}
use Rattle.answer.specs.declared.Refusal.TheVariants.{OutsideGrid, Input}
use Rattle.answer.specs.declared.Cell.{Cell}
use Rattle.answer.specs.Refusals.{unless_refused}
use Rattle.store.specs.Face.{check, element, short_kind, rectangle_inside}
use Rattle.score_rule.specs.declared.Said.{Said}
use Rattle.score_rule.specs.declared.Said.TheVariants.{First, Second, Wrong}
use Rattle.score_rule.specs.Rules.{page_says}
use Rattle.deeds.specs.declared.Rule.{Rule}
use Rattle.deeds.specs.declared.Grade.{Grade}
use Rattle.deeds.specs.declared.Grade.TheVariants.{Certain, Doubtful, Unread}
use Rattle.deeds.specs.declared.Deed.{Deed}
use Rattle.deeds.specs.declared.tally.Tally.{Tally}
use Rattle.deeds.specs.Deeds.{grade_from, grade_by, graded, first_rule, second_rule, deed_by, cells_of, rectangle_scored, deed_said, deed_in, deed, Graded}
use Rattle.deeds.specs.Tallies.{judged_in}
use Rattle.deeds.proofs.TallyLaws.{tally_fills, tally_certain, tally_lowest}
use Rattle.deeds.proofs.PieceLaws.{judged_refused, counted_in}

-- a rectangle with a cell, of a Short

module _ (s : List ℕ) (e rows columns : ℕ) where
  pub not_scored : (1 ≤ rows → 1 ≤ columns → (element s e).kind ≡ short_kind → ⊥) → false ≡ rectangle_scored s e rows columns
  unfolding rectangle_scored
  not_scored h = no ((1 ≤? rows) ∷ (1 ≤? columns) ∷ ((element s e).kind ≡? short_kind) ∷ []) (λ y. h y.0 y.1.0 y.1.1.0)

  pub all_scored : 1 ≤ rows → 1 ≤ columns → (element s e).kind ≡ short_kind → true ≡ rectangle_scored s e rows columns
  unfolding rectangle_scored
  all_scored h k t = yes ((1 ≤? rows) ∷ (1 ≤? columns) ∷ ((element s e).kind ≡? short_kind) ∷ []) (h, (k, (t, tt)))

  pub scored : (k : ℕ) → k ≡ (element s e).kind → 1 ≤ rows → 1 ≤ columns → eqb k 3 ≡ rectangle_scored s e rows columns
  unfolding rectangle_scored
  scored k p h l =
      either_way ((1 ≤? rows) ∷ (1 ≤? columns) ∷ ((element s e).kind ≡? short_kind) ∷ []) (eqb k 3) (λ t. (h, (l, (sym p ∙ eqb-true k 3 t, tt))))
      (λ t y. eqb-false k 3 t (p ∙ y.1.1.0))

-- the grade

pub grade_unread : (n : ℕ) (b : Bool) → 1 ≤ n → Unread ≡ grade_from n b
unfolding grade_from
grade_unread n b h = rw (← yes ((1 ≤? n) ∷ []) (h, tt))

module _ (n : ℕ) (b : Bool) (h : n ≡ 0) where
  pub grade_certain : b ≡ true → Certain ≡ grade_from n b
  unfolding grade_from
  grade_certain e = rw (← no ((1 ≤? n) ∷ []) (λ y. omega arith), e)

  pub grade_doubtful : b ≡ false → Doubtful ≡ grade_from n b
  unfolding grade_from
  grade_doubtful e = rw (← no ((1 ≤? n) ∷ []) (λ y. omega arith), e)

-- by a rule, from what was counted

module _ (m n : ℕ) (f : ℕ → ℕ → Result Cell Refusal) (rule : Rule) (x : Result Tally Refusal) (q : x ≡ judged_in rule 0 m 0 n f) where
  pub deed_at_cell : (r : Refusal) → x ≡ Err r → Err r ≡ deed_by rule m n f
  unfolding deed_by unless_refused judged_in
  deed_at_cell r d = rw (judged_refused _ _ r (sym q ∙ d))

  pub deed_graded : (t : Tally) (g : Grade) → x ≡ Ok t → g ≡ grade_from t.fills t.certain → Graded rule g t.fills t.lowest ≡ deed_by rule m n f
  unfolding deed_by unless_refused graded grade_by
  deed_graded t g d k =
      let z = counted_in f rule 0 m 0 n t x q d in
      rw (z.0, k, z.1, tally_fills rule 0 m 0 n f, tally_certain rule 0 m 0 n f, tally_lowest rule 0 m 0 n f)

-- by the rule that the page says

module _ (m n : ℕ) (f : ℕ → ℕ → Result Cell Refusal) (x y : Said) (p : x ≡ y) where
  pub deed_first : (rule : Rule) (d : Result Deed Refusal) → x ≡ First → rule ≡ first_rule → d ≡ deed_by rule m n f → d ≡ deed_said y m n f
  unfolding deed_said
  deed_first rule d h u e = e ∙ rw (← p, h, u)

  pub deed_second : (rule : Rule) (d : Result Deed Refusal) → x ≡ Second → rule ≡ second_rule → d ≡ deed_by rule m n f → d ≡ deed_said y m n f
  unfolding deed_said
  deed_second rule d h u e = e ∙ rw (← p, h, u)

  pub deed_wrong : x ≡ Wrong → Err Input ≡ deed_said y m n f
  unfolding deed_said
  deed_wrong h = rw (← p, h)

-- of a rectangle in the grid

module _ (s : List ℕ) (ci e row column rows columns : ℕ) (b : Bool) (p : b ≡ rectangle_scored s e rows columns) where
  pub deed_input : b ≡ false → Err Input ≡ deed_in s ci e row column rows columns
  unfolding deed_in
  deed_input h = rw (← p, h)

  pub deed_scored : (x : Result Deed Refusal) → b ≡ true → x ≡ deed_said (page_says s) rows columns (cells_of s ci e row column) → x ≡ deed_in s ci e row column rows columns
  unfolding deed_in
  deed_scored x h q = q ∙ rw (← p, h)

-- behind the check

module _ (s : List ℕ) (ci e row column rows columns : ℕ) (v : Result ⊤ Refusal) (p : v ≡ check s) where
  pub deed_refused : (r : Refusal) → v ≡ Err r → Err r ≡ deed s ci e row column rows columns
  unfolding deed unless_refused
  deed_refused r q = rw (← p, q)

  module _ (b : Bool) (i : b ≡ rectangle_inside s e row column rows columns) (q : v ≡ Ok tt) where
    pub deed_outside : b ≡ false → Err OutsideGrid ≡ deed s ci e row column rows columns
    unfolding deed unless_refused
    deed_outside f = rw (← p, q, ← i, f)

    pub deed_inside : (x : Result Deed Refusal) → b ≡ true → x ≡ deed_in s ci e row column rows columns → x ≡ deed s ci e row column rows columns
    unfolding deed unless_refused
    deed_inside x f z = z ∙ rw (← p, q, ← i, f)
