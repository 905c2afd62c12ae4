-- What an acceptance behind tests and checks gives. Assumes nothing.
use Rattle.std.specs.Prelude.{Err, Ok, Result, ⊤}
use Prim.Native.Nat.{ℕ}
use mathlib.Core.Path.{◌≡◌, refl, sym, ap, ◌∙◌}
use mathlib.Core.Bool.{Bool, true, false}
use mathlib.Core.Logic.{◌⊎◌, inl, inr}
use native.Mathlib.Omega.{arith}
use Rattle.answer.specs.declared.Refusal.{Refusal}
use Rattle.answer.specs.declared.Cell.{Cell}
use Rattle.answer.specs.declared.Cell.TheVariants as cell
use Rattle.answer.specs.Refusals.{gate, unless_refused}
use Rattle.answer.specs.Answers.{cell_kind, cell_verdict}

-- a refusal is no acceptance
pub refused_not : {C : Type 0} {r : Refusal} → ◌≡◌ {A = Result ⊤ Refusal} (Err r) (Ok tt) → C
refused_not e = let z : ◌≡◌ {A = ℕ} 0 1 = cc in absurd (omega arith)

-- two refusals are one answer only where they are one
pub refused_is : {q r : Refusal} → ◌≡◌ {A = Result ⊤ Refusal} (Err q) (Err r) → q ≡ r
refused_is e = cc

pub gate_passed : (b : Bool) (r : Refusal) (v : Result ⊤ Refusal) → gate b r v ≡ Ok tt → (b ≡ true) × (v ≡ Ok tt)
unfolding gate
gate_passed true r v e = (refl, e)
gate_passed false r v e = refused_not e

pub behind_passed : (v w : Result ⊤ Refusal) → unless_refused Err v w ≡ Ok tt → (v ≡ Ok tt) × (w ≡ Ok tt)
unfolding unless_refused
behind_passed (Ok accepted) w e = (refl, e)
behind_passed (Err r) w e = refused_not e

-- a cell that is not refused is stored, a fill or unpacked
pub cell_kinds : (x : Result Cell Refusal) → cell_verdict x ≡ Ok tt → (cell_kind x ≡ 32) ⊎ ((cell_kind x ≡ 33) ⊎ (cell_kind x ≡ 34))
cell_kinds (Ok (cell.Stored v at w)) e = inl refl
cell_kinds (Ok (cell.Fill v w)) e = inr (inl refl)
cell_kinds (Ok (cell.Unpacked v at w)) e = inr (inr refl)
cell_kinds (Err r) e = refused_not e

-- a function that asks a check and hands its refusal on

module _ {A : Type 0} (refused : Refusal → A) (v w : Result ⊤ Refusal) (p : v ≡ w) (x : A) where
  pub refusal_handed : (r : Refusal) → v ≡ Err r → refused r ≡ unless_refused refused w x
  unfolding unless_refused
  refusal_handed r f = rw (← p, f)

  pub answer_behind : (y : A) → v ≡ Ok tt → (w ≡ Ok tt → y ≡ x) → y ≡ unless_refused refused w x
  unfolding unless_refused
  answer_behind y f g = rw (← p, f) (g (sym p ∙ f))

-- two answers behind one check are one where they are one behind its acceptance
pub same_behind : {A : Type 0} (refused : Refusal → A) (w : Result ⊤ Refusal) (x y : A) → (w ≡ Ok tt → x ≡ y) → unless_refused refused w x ≡ unless_refused refused w y
unfolding unless_refused
same_behind refused (Ok accepted) x y f = f refl
same_behind refused (Err r) x y f = refl

-- what an arm behind `Ok` says of the whole
pub arm_of : {A E : Type 0} {x : Result A E} {y z : A} → x ≡ Ok y → y ≡ z → x ≡ Ok z
arm_of e f = e ∙ ap Ok f
