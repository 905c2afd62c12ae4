-- The first fault by rows, found in any order. Assumes nothing.
use Rattle.std.specs.Prelude.{Err, Ok, Result, ⊤}
use Rattle.answer.specs.declared.Refusal.{Refusal}
use Prim.Native.Nat.{ℕ, max, ◌+◌, ◌-◌, ◌*◌, ◌/◌, ◌%◌, ◌≤◌, ◌<◌}
use mathlib.Core.Path.{◌≡◌, refl, sym, ◌∙◌}
use mathlib.Core.Bool.{Bool, true, false}
use mathlib.Core.Logic.{◌⊎◌, inl, inr, by_cases}
use native.Mathlib.Decide.{dec_le}
use native.Mathlib.Omega.{arith}
use native.Mathlib.Nat.{mul-le-mul_right}
use lib.Dec.{eqb}
use borrow.Author.Tests.{eqb-true, eqb-false}
use Rattle.wire.specs.Pick.{pick}
use Rattle.wire.proofs.TestLaws.{not_both}
use Rattle.blocks.specs.Tables.{Inside}
use Rattle.blocks.specs.Folds.{fold_inside, Joins}
use Rattle.blocks.proofs.TableLaws.{place_less, place_row, same_place}
use Rattle.blocks.proofs.InsideLaws.{inside_found, inside_none, inside_first_at, inside_absorbs}
use Rattle.answer.specs.Refusals.{unless_refused}
use Rattle.sheets.specs.First.{is_fault, weight, heaviest, fault_at, FirstByRows}

-- the greatest of numbers, and the first refusal

pub greatest : Joins max 0
greatest = record { unit_left = λ x. omega arith; unit_right = λ x. omega arith; assoc = λ x y z. omega arith }

pub either : (x y : ℕ) → (max x y ≡ x) ⊎ (max x y ≡ y)
either x y = by_cases (dec_le x y) (λ h. inr (omega arith)) (λ h. inl (omega arith))

pub verdicts : Joins (unless_refused Err) (Ok tt)
unfolding unless_refused
verdicts = record { unit_left = λ x. refl; unit_right = right; assoc = assoc }
  where
    right : (x : Result ⊤ Refusal) → unless_refused Err x (Ok tt) ≡ x
    right (Ok accepted) = refl
    right (Err r) = refl

    assoc : (x y z : Result ⊤ Refusal) → unless_refused Err (unless_refused Err x y) z ≡ unless_refused Err x (unless_refused Err y z)
    assoc (Ok accepted) y z = refl
    assoc (Err r) y z = refl

no_fault : (v : Result ⊤ Refusal) → is_fault v ≡ false → v ≡ Ok tt
unfolding is_fault
no_fault (Ok accepted) e = refl
no_fault (Err r) e = not_both refl e

first_stays : (v : Result ⊤ Refusal) → is_fault v ≡ true → (y : Result ⊤ Refusal) → unless_refused Err v y ≡ v
unfolding is_fault unless_refused
first_stays (Ok accepted) e y = not_both e refl
first_stays (Err r) e y = refl

module _ (rows columns : ℕ) (g : ℕ → ℕ → Result ⊤ Refusal) where
  abbrev all : ℕ
  all = heaviest rows columns g 0 rows 0 columns

  -- a cell that is faulty weighs something, and no more than the heaviest

  faulty_weighs : (r c : ℕ) → is_fault (g r c) ≡ true → weight rows columns g r c ≡ rows * columns - (r * columns + c)
  unfolding weight
  faulty_weighs r c e = rw e

  clean_weighs : (r c : ℕ) → is_fault (g r c) ≡ false → weight rows columns g r c ≡ 0
  unfolding weight
  clean_weighs r c e = rw e

  weighed : (r c : ℕ) → Inside 0 rows 0 columns r c → weight rows columns g r c ≤ all
  unfolding heaviest
  weighed r c h =
      let e = inside_absorbs max 0 greatest (λ x y. omega arith) 0 rows 0 columns (weight rows columns g) (λ x. omega arith) r c h in
      omega arith

  lighter_clean : (r c : ℕ) → Inside 0 rows 0 columns r c → all < rows * columns - (r * columns + c) → g r c ≡ Ok tt
  lighter_clean r c h k = no_fault (g r c) (go (is_fault (g r c)) refl)
    where
      go : (b : Bool) → is_fault (g r c) ≡ b → is_fault (g r c) ≡ false
      go true e = absurd (omega (arith, faulty_weighs r c e, weighed r c h))
      go false e = e

  none : all ≡ 0 → fold_inside (unless_refused Err) (Ok tt) 0 rows 0 columns g ≡ Ok tt
  none e =
      inside_none (unless_refused Err) (Ok tt) verdicts 0 rows 0 columns g
      (λ r c h. lighter_clean r c h (omega (arith, place_less rows columns r c h.to_bottom h.to_right)))

  some : (all ≡ 0 → ⊥) → fold_inside (unless_refused Err) (Ok tt) 0 rows 0 columns g ≡ g ((rows * columns - all) / columns) ((rows * columns - all) % columns)
  unfolding heaviest
  some n =
      let y = inside_found max 0 either 0 rows 0 columns (weight rows columns g) n in
      found y.0 y.1 y.2 y.3 (is_fault (g y.0 y.1)) refl
    where
      found :
          (r c : ℕ) → Inside 0 rows 0 columns r c → weight rows columns g r c ≡ all → (b : Bool) → is_fault (g r c) ≡ b →
          fold_inside (unless_refused Err) (Ok tt) 0 rows 0 columns g ≡ g ((rows * columns - all) / columns) ((rows * columns - all) % columns)
      found r c h e false q = absurd (n (sym e ∙ clean_weighs r c q))
      found r c h e true q =
          let p = place_less rows columns r c h.to_bottom h.to_right in
          let w = faulty_weighs r c q in
          let z : rows * columns - all ≡ r * columns + c = omega arith in
          let i = place_row rows columns (r * columns + c) p in
          let a = same_place columns ((r * columns + c) / columns) ((r * columns + c) % columns) r c i.2 i.1 h.to_right in
          rw (z, a.0, a.1)
          (inside_first_at (unless_refused Err) (Ok tt) verdicts 0 rows 0 columns g r c (g r c) refl
          (λ i k t.
          let l : (i + 1) * columns ≤ r * columns = mul-le-mul_right columns (omega (arith, t.to_bottom)) in
          lighter_clean i k (record { from_top = t.from_top; to_bottom = omega (arith, t.to_bottom, h.to_bottom); from_left = t.from_left; to_right = t.to_right }) (omega (arith, t.to_right)))
          (λ k t u. lighter_clean r k (record { from_top = h.from_top; to_bottom = h.to_bottom; from_left = t; to_right = omega (arith, h.to_right) }) (omega arith))
          (first_stays (g r c) q) h)

pub first_by_rows : FirstByRows
unfolding fault_at
first_by_rows rows columns g = go (eqb (heaviest rows columns g 0 rows 0 columns) 0) refl
  where
    go :
        (b : Bool) → eqb (heaviest rows columns g 0 rows 0 columns) 0 ≡ b →
        fold_inside (unless_refused Err) (Ok tt) 0 rows 0 columns g
        ≡ pick b (Ok tt) (g ((rows * columns - heaviest rows columns g 0 rows 0 columns) / columns) ((rows * columns - heaviest rows columns g 0 rows 0 columns) % columns))
    go true e = none rows columns g (eqb-true _ _ e)
    go false e = some rows columns g (eqb-false _ _ e)
