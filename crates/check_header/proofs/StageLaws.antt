-- Stages in their order: which refusal the first one that fails gives. Assumes nothing.
use Rattle.std.specs.Prelude.{Err, Ok, Result, ⊤}
use Prim.Native.Nat.{ℕ}
use mathlib.Core.Path.{◌≡◌, sym, ◌∙◌}
use mathlib.Core.List.{List, [], ◌∷◌}
use mathlib.Core.Bool.{Bool, true, false}
use Rattle.answer.specs.declared.Refusal.{Refusal}
use Rattle.answer.specs.declared.Refusal.TheVariants.{Opened}
use Rattle.answer.specs.Refusals.{gate}
use Rattle.wire.proofs.TestLaws.{yes, no}
use Rattle.wire.specs.Tests.{◌≡?◌}
use Rattle.header.specs.Fields.{time_opened}
use Rattle.check_header.specs.Stages.{closed}

-- at a return behind a test: the refusal where it fails, what comes behind it where it passes

module _ (a b : Bool) (r : Refusal) (p : a ≡ b) where
  pub stopped : (v : Result ⊤ Refusal) → a ≡ false → Err r ≡ gate b r v
  unfolding gate
  stopped v e = rw (← p, e)

  pub let_by : (v w : Result ⊤ Refusal) → a ≡ true → w ≡ v → w ≡ gate b r v
  unfolding gate
  let_by v w e k = rw (← p, e) k

-- stage 5

pub closed_not : (s : List ℕ) (x : ℕ) → x ≡ time_opened s → (x ≡ 0 → ⊥) → Err Opened ≡ gate (closed s) Opened (Ok tt)
unfolding closed gate
closed_not s x u m = rw (← no ((time_opened s ≡? 0) ∷ []) (λ k. m (u ∙ k.0)))

pub closed_yes : (s : List ℕ) (x : ℕ) → x ≡ time_opened s → x ≡ 0 → Ok tt ≡ gate (closed s) Opened (Ok tt)
unfolding closed gate
closed_yes s x u m = rw (← yes ((time_opened s ≡? 0) ∷ []) (sym u ∙ m, tt))

pub ruleset in_order = (stopped, let_by, closed_not, closed_yes)
