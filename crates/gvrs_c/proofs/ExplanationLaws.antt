-- What `out` takes of an explanation. Assumes nothing.
use Prim.Native.Nat.{ℕ}
use mathlib.Core.Path.{◌≡◌}
use mathlib.Core.List.{[], ◌∷◌}
use Rattle.answer.specs.Refusals.{refusal_number, refusal_place}
use Rattle.reasons.specs.declared.Explanation.{Explanation}
use Rattle.gvrs_c.specs.Explanation.{explained_number, explained_numbers}
use Rattle.std.specs.Prelude.{Ok, Err}
use Rattle.reasons.specs.Stages.{Explained}

module _ (x : Explained) where
  pub number_refused : (z : Explanation) (n : ℕ) → x ≡ Err z → n ≡ refusal_number z.refusal → n ≡ explained_number x
  number_refused z n e g = rw e g

  pub numbers_accepted : x ≡ Ok tt → 0 ∷ 0 ∷ 0 ∷ 0 ∷ 0 ∷ 0 ∷ [] ≡ explained_numbers x
  numbers_accepted e = rw e

  pub numbers_refused :
      (z : Explanation) (a : ℕ) → x ≡ Err z → a ≡ refusal_place z.refusal →
      a ∷ z.fault.rule ∷ z.fault.index ∷ z.fault.at ∷ z.fault.found ∷ z.fault.wanted ∷ [] ≡ explained_numbers x
  numbers_refused z a e g = rw (e, g)
