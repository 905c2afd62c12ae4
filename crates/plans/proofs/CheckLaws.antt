-- A plan is judged in one walk over the records that are kept. Assumes nothing.
use Rattle.std.specs.Prelude.{Err, None, Ok, Option, Result, Some}
use Rattle.answer.specs.declared.Refusal.{Refusal}
use Prim.Native.Nat.{ℕ, suc, ◌+◌, ◌%◌, ◌≤◌, ◌<◌}
use mathlib.Core.Path.{◌≡◌, refl, sym, ap, ◌∙◌}
use mathlib.Core.List.{List, [], ◌∷◌}
use mathlib.Core.Bool.{true, false}
use native.Mathlib.Omega.{arith}
use lib.ListN.{length, get_or, drop, drop_of_length-le}
use lib.Seq.{drop-cons}
use borrow.Author.Tests.{eq-eqb, ne_eqb, le-leb, lt-leb}
use Rattle.wire.proofs.TestLaws.{means, yes, no, not_both}
use Rattle.answer.specs.declared.Refusal.TheVariants.{Input}
use Rattle.answer.specs.Refusals.{gate, unless_refused}
use Rattle.record.specs.Record.{length_at}
use Rattle.record.specs.Chain.{header_end, first_record}
use Rattle.correct.specs.Plan.{is_kept, kept_starts, gap_right, start_right, plan_from, plan_right, end_from, planned_end}
use Rattle.correct.specs.Answers.{plan_then, answered}
use Rattle.plans.proofs.KeptLaws.{kept_from, kept_all, next_is, next_none}

-- one start

gap_none : (e p : ℕ) → p ≡ e → gap_right e p ≡ true
unfolding gap_right
gap_none e p h = rw (eq-eqb p e h)

gap_wide : (e p : ℕ) → e + 16 ≤ p → gap_right e p ≡ true
unfolding gap_right
gap_wide e p h = rw (ne_eqb p e (λ z. omega arith), le-leb (e + 16) p h)

gap_small : (e p : ℕ) → (p ≡ e → ⊥) → p < e + 16 → gap_right e p ≡ false
unfolding gap_right
gap_small e p g h = rw (ne_eqb p e g, lt-leb (e + 16) p h)

pub start_odd : (e x p : ℕ) → (p % 8 ≡ 0 → ⊥) → false ≡ start_right e x p
unfolding start_right
start_odd e x p z = no _ (λ h. z h.0)

pub start_up : (e x p : ℕ) → x < p → false ≡ start_right e x p
unfolding start_right
start_up e x p z = no _ (λ h. omega (arith, h.1.0))

pub start_before : (e x p : ℕ) → p < e → false ≡ start_right e x p
unfolding start_right
start_before e x p z = no _ (λ h. omega (arith, h.1.1.0))

pub start_small : (e x p : ℕ) → (p ≡ e → ⊥) → p < e + 16 → false ≡ start_right e x p
unfolding start_right
start_small e x p g z = no _ (λ h. not_both h.1.1.1.0 (gap_small e p g z))

pub start_close : (e x p : ℕ) → p % 8 ≡ 0 → p ≤ x → p ≡ e → true ≡ start_right e x p
unfolding start_right
start_close e x p a b c = yes _ (a, (b, (omega arith, (gap_none e p c, tt))))

pub start_wide : (e x p : ℕ) → p % 8 ≡ 0 → p ≤ x → e + 16 ≤ p → true ≡ start_right e x p
unfolding start_right
start_wide e x p a b c = yes _ (a, (b, (omega arith, (gap_wide e p c, tt))))

pub start_most : (e x p : ℕ) → start_right e x p ≡ true → p ≤ x
unfolding start_right
start_most e x p h = (means _ h).1.0

-- what is judged of the old starts xs and the new ones ps
unfoldable pub judged_from : List ℕ → ℕ → List ℕ → List ℕ → Result ℕ Refusal
judged_from s e xs ps = answered (gate (plan_from s e xs ps) Input (Ok tt)) (end_from s e xs ps)

judged_all : (s ps : List ℕ) → judged_from s (header_end s) (kept_starts s) ps ≡ answered (plan_then s ps (Ok tt)) (planned_end s ps)
unfolding judged_from plan_then plan_right planned_end
judged_all s ps = refl

judged_end : (s : List ℕ) (e : ℕ) → judged_from s e [] [] ≡ Ok e
unfolding judged_from plan_from end_from answered gate unless_refused
judged_end s e = refl

judged_many : (s : List ℕ) (e p : ℕ) (ps : List ℕ) → judged_from s e [] (p ∷ ps) ≡ Err Input
unfolding judged_from plan_from answered gate unless_refused
judged_many s e p ps = refl

judged_few : (s : List ℕ) (e x : ℕ) (xs : List ℕ) → judged_from s e (x ∷ xs) [] ≡ Err Input
unfolding judged_from plan_from answered gate unless_refused
judged_few s e x xs = refl

judged_wrong : (s : List ℕ) (e x p : ℕ) (xs ps : List ℕ) → start_right e x p ≡ false → judged_from s e (x ∷ xs) (p ∷ ps) ≡ Err Input
unfolding judged_from plan_from answered gate unless_refused
judged_wrong s e x p xs ps h = rw h

judged_right : (s : List ℕ) (e x p : ℕ) (xs ps : List ℕ) → start_right e x p ≡ true → judged_from s e (x ∷ xs) (p ∷ ps) ≡ judged_from s (p + length_at s x) xs ps
unfolding judged_from plan_from end_from
judged_right s e x p xs ps h = rw h

-- the walk at `at`, k starts taken, the last kept record ends at e
pub record Judging (s plan : List ℕ) (at e k : ℕ) : Type 0 where
  pub same : judged_from s e (kept_from s at) (drop k plan) ≡ answered (plan_then s plan (Ok tt)) (planned_end s plan)
  pub few : k ≤ length plan

pub judging_begin : (s plan : List ℕ) (at : ℕ) → at ≡ header_end s → Judging s plan at at 0
judging_begin s plan at e = record { same = rw (e, kept_all s) (judged_all s plan); few = omega arith }

module _ {s plan : List ℕ} {at e k : ℕ} {r : Option ℕ} (t : Judging s plan at e k) (u : r ≡ first_record s at (is_kept s)) where
  module _ (l : length plan ≤ k) where
    ended : judged_from s e (kept_from s at) [] ≡ answered (plan_then s plan (Ok tt)) (planned_end s plan)
    ended = ap (judged_from s e (kept_from s at)) (sym (drop_of_length-le plan l)) ∙ t.same

    pub judging_over : r ≡ None → Ok e ≡ answered (plan_then s plan (Ok tt)) (planned_end s plan)
    judging_over v = sym (judged_end s e) ∙ ap (λ (xs : List ℕ). judged_from s e xs []) (sym (next_none s at u v)) ∙ ended

    pub judging_few : {x : ℕ} → r ≡ Some x → Err Input ≡ answered (plan_then s plan (Ok tt)) (planned_end s plan)
    judging_few {x} v = sym (judged_few s e x _) ∙ ap (λ (xs : List ℕ). judged_from s e xs []) (sym (next_is s at x u v).here) ∙ ended

  module _ {p : ℕ} (l : k < length plan) (g : p ≡ get_or plan k 0) where
    taken : judged_from s e (kept_from s at) (p ∷ drop (suc k) plan) ≡ answered (plan_then s plan (Ok tt)) (planned_end s plan)
    taken = rw g (ap (judged_from s e (kept_from s at)) (sym (drop-cons plan k 0 l)) ∙ t.same)

    pub judging_many : r ≡ None → Err Input ≡ answered (plan_then s plan (Ok tt)) (planned_end s plan)
    judging_many v = sym (judged_many s e p _) ∙ ap (λ (xs : List ℕ). judged_from s e xs (p ∷ drop (suc k) plan)) (sym (next_none s at u v)) ∙ taken

    module _ {x : ℕ} (v : r ≡ Some x) where
      here : judged_from s e (x ∷ kept_from s (x + length_at s x)) (p ∷ drop (suc k) plan) ≡ answered (plan_then s plan (Ok tt)) (planned_end s plan)
      here = ap (λ (xs : List ℕ). judged_from s e xs (p ∷ drop (suc k) plan)) (sym (next_is s at x u v).here) ∙ taken

      pub judging_wrong : false ≡ start_right e x p → Err Input ≡ answered (plan_then s plan (Ok tt)) (planned_end s plan)
      judging_wrong w = sym (judged_wrong s e x p _ _ (sym w)) ∙ here

      pub judging_more : {n : ℕ} → n ≡ length_at s x → true ≡ start_right e x p → Judging s plan (x + n) (p + n) (k + 1)
      judging_more {n} m w =
          let i : k + 1 ≡ suc k = omega arith in
          record { same = rw (i, m) (sym (judged_right s e x p _ _ (sym w)) ∙ here); few = omega arith }

  pub judging_room : {x n : ℕ} (p : ℕ) → r ≡ Some x → n ≡ length_at s x → true ≡ start_right e x p → p + n ≤ length s
  judging_room {x} {n} p v m w = omega (arith, start_most e x p (sym w), (next_is s at x u v).is.inside)
