-- Req 07: what is not refused is graded. Assumes nothing.
use Rattle.std.specs.Prelude.{Err, Ok, Result, Some, None}
use Rattle.answer.specs.declared.Refusal.{Refusal}
use Prim.Native.Nat.{ℕ, suc, ◌+◌, ◌-◌, ◌%◌, ◌≤◌, ◌<◌}
use mathlib.Core.Path.{◌≡◌, refl, sym, ap, ◌∙◌}
use mathlib.Core.List.{List}
use mathlib.Core.Bool.{true, false}
use mathlib.Core.Logic.{⊎_elim}
use lib.IntN.{ℤ, pos, negsuc}
use mir.Syntax.{w16}
use mir.Val.{to_z}
use mir.Facts.{to_z_pos, to_z-neg}
use Rattle.wire.specs.Tests.{passes}
use Rattle.wire.proofs.TestLaws.{yes, no}
use Rattle.answer.specs.declared.Cell.{Cell}
use native.Mathlib.Omega.{arith}
use Rattle.answer.specs.Refusals.{unless_refused}
use Rattle.answer.specs.Answers.{cell_kind, cell_bits, cell_verdict}
use Rattle.store.specs.Face.{check, meaning}
use Rattle.store.proofs.ManyLaws.{means_inside}
use Rattle.score_rule.specs.declared.Said.{Said}
use Rattle.score_rule.specs.declared.Said.TheVariants.{First, Second, Wrong}
use Rattle.score_rule.specs.Rules.{page_says}
use Rattle.blocks.proofs.InsideLaws.{inside_none}
use Rattle.deeds.specs.Deeds.{is_fill, is_stored, minus_one, counts_as_fill, is_scored, score_of, refusal_in, graded, deed_by, cells_of, deed_said}
use Rattle.deeds.proofs.PieceLaws.{verdicts}
use Rattle.deeds.proofs.DeedLaws.{all_scored, deed_scored, deed_inside}
use Rattle.exact_products.specs.Deeds.{IsGraded, DeedGiven, ScoresExactly}
use Rattle.exact_products.specs.Comparisons.{IsHeld}

module _ (s : List ℕ) (ci e row column rows columns : ℕ) where
  none_refused :
      ((r c : ℕ) → r < rows → c < columns → cell_verdict (meaning s ci (row + r) (column + c) e) ≡ Ok tt) →
      refusal_in 0 rows 0 columns (cells_of s ci e row column) ≡ Ok tt
  unfolding refusal_in cells_of
  none_refused f = inside_none (unless_refused Err) (Ok tt) verdicts 0 rows 0 columns _ (λ r c h. f r c (omega arith) (omega arith))

  said_graded :
      (y : Said) → (y ≡ Wrong → ⊥) → refusal_in 0 rows 0 columns (cells_of s ci e row column) ≡ Ok tt → IsGraded (deed_said y rows columns (cells_of s ci e row column))
  unfolding deed_said deed_by graded unless_refused
  said_graded First h q = rw q (record { rule = _; grade = _; fills = _; lowest = _; is = refl })
  said_graded Second h q = rw q (record { rule = _; grade = _; fills = _; lowest = _; is = refl })
  said_graded Wrong h q = absurd (h refl)

pub deed_given : DeedGiven
deed_given s ci e row column rows columns a h k l m n t w f =
    let g = said_graded s ci e row column rows columns (page_says s) w (none_refused s ci e row column rows columns f) in
    let d =
    deed_inside s ci e row column rows columns (check s) refl _ refl a _ (sym (means_inside s e row column rows columns h k l))
    (deed_scored s ci e row column rows columns _ refl _ (sym (all_scored s e rows columns m n t)) refl)
    in
    record { rule = g.rule; grade = g.grade; fills = g.fills; lowest = g.lowest; is = sym d ∙ g.is }

-- what a cell counts as

stored_is : (x : Result Cell Refusal) → IsHeld x → is_stored x ≡ true
unfolding is_stored
stored_is x h = ⊎_elim (λ e. rw e refl) (λ e. rw e refl) h

minus_is : (x : Result Cell Refusal) → cell_bits x ≡ 65535 → minus_one x ≡ true
unfolding minus_one
minus_is x e = sym (yes _ (omega arith, tt))

minus_not : (x : Result Cell Refusal) → cell_bits x < 65535 → minus_one x ≡ false
unfolding minus_one
minus_not x h = sym (no _ (λ p. omega (arith, p.0)))

module _ (x : Result Cell Refusal) where
  is_fill_lem : cell_kind x ≡ 33 → (counts_as_fill x ≡ true) × ((is_scored x ≡ false) × (score_of x ≡ None))
  unfolding counts_as_fill is_scored score_of is_stored is_fill passes
  is_fill_lem e = rw e (refl, (refl, refl))

  is_minus : IsHeld x → cell_bits x ≡ 65535 → (counts_as_fill x ≡ true) × ((is_scored x ≡ false) × (score_of x ≡ None))
  unfolding counts_as_fill is_scored score_of
  is_minus h e = rw (stored_is x h, minus_is x e) (refl, (refl, refl))

  is_score :
      IsHeld x → cell_bits x < 65535 → (z : ℤ) → to_z w16 (cell_bits x % 65536) ≡ z →
      (counts_as_fill x ≡ false) × ((is_scored x ≡ true) × (score_of x ≡ Some z))
  unfolding counts_as_fill is_scored score_of
  is_score h l z e = rw (stored_is x h, minus_not x l) (refl, (refl, ap Some e))

  low : cell_bits x < 32768 → to_z w16 (cell_bits x % 65536) ≡ pos (cell_bits x)
  low h = let z : cell_bits x % 65536 ≡ cell_bits x = omega arith in ap (to_z w16) z ∙ to_z_pos w16 h

  high : 32768 ≤ cell_bits x → cell_bits x < 65535 → to_z w16 (cell_bits x % 65536) ≡ negsuc (65535 - cell_bits x)
  high h k =
      let back : 65536 - suc (65535 - cell_bits x) ≡ cell_bits x % 65536 = omega arith in
      ap (to_z w16) (sym back) ∙ to_z-neg w16 (65535 - cell_bits x) (omega arith)

pub scores_exactly : ScoresExactly
scores_exactly x =
    record {
      fill = is_fill_lem x;
      minus = is_minus x;
      positive = λ h k. is_score x h (omega arith) _ (low x k);
      negative = λ h k l. is_score x h l _ (high x k l);
    }
