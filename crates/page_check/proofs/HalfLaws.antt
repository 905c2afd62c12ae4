-- The two halves of the check together are the check. Assumes nothing.
use Rattle.std.specs.Prelude.{Err, Ok, Result, ⊤}
use Prim.Native.Nat.{ℕ}
use mathlib.Core.Path.{◌≡◌, sym, ◌∙◌}
use mathlib.Core.List.{List}
use lib.ListN.{length, take}
use Rattle.answer.specs.declared.Refusal.{Refusal}
use Rattle.answer.specs.declared.Refusal.TheVariants.{Input, Incomplete}
use Rattle.answer.specs.Refusals.{unless_refused}
use Rattle.answer.proofs.VerdictLaws.{refused_not, refused_is}
use Rattle.check_header.specs.Stages.{check_header}
use Rattle.check_start.specs.Start.{check_start}
use Rattle.check_start.proofs.StartAgrees.{whole_file, begins_so}
use Rattle.page_check.specs.Stages.{check_from_records, check}
use Rattle.page_check.specs.Halves.{check_rest, Together, FirstDecides}

pub together : Together
unfolding check_rest check
together s = rw (whole_file s)

-- the second half, at its returns

module _ (s : List ℕ) (v : Result ⊤ Refusal) where
  pub first_refused : v ≡ check_start s (length s) → (x : Refusal) → v ≡ Err x → Err x ≡ check_rest s
  unfolding check_rest unless_refused
  first_refused p x e = rw (← p, e)

  pub first_passed : v ≡ check_start s (length s) → (w : Result ⊤ Refusal) → v ≡ Ok tt → w ≡ check_from_records s → w ≡ check_rest s
  unfolding check_rest unless_refused
  first_passed p w e q = rw (← p, e) q

  pub rest_is : v ≡ check_rest s → v ≡ check s
  rest_is p = p ∙ together s

pub ruleset halves = (first_refused, first_passed, rest_is)

module _ (s f : List ℕ) (b : take (length s) f ≡ s) where
  answered : (v : Result ⊤ Refusal) → check_start s (length f) ≡ v → (v ≡ Err Input → ⊥) → (v ≡ Err Incomplete → ⊥) → check_header f (length f) ≡ v
  answered v e i m = begins_so s f b (λ k. i (sym e ∙ k)) (λ k. m (sym e ∙ k)) ∙ e

pub first_decides : FirstDecides
unfolding check unless_refused
first_decides s f b =
    record {
      refuses = λ r e i m. rw (answered s f b (Err r) e (λ k. i (refused_is k)) (λ k. m (refused_is k)));
      accepts = λ e. rw (answered s f b (Ok tt) e (λ k. refused_not (sym k)) (λ k. refused_not (sym k)));
    }
