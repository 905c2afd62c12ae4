-- Items one behind the other that stand at two places with the same bytes end at the same offset. Assumes nothing.
use Prim.Native.Nat.{ℕ, zero, suc, ◌+◌, ◌≤◌}
use mathlib.Core.Path.{◌≡◌, refl, ap, ◌∙◌}
use mathlib.Core.Logic.{by_cases}
use native.Mathlib.Decide.{dec_le}
use native.Mathlib.Omega.{arith}
use native.Mathlib.Numerals.{add-one}
use Rattle.wire.specs.Items.{advance}
use Rattle.wire.proofs.ItemLaws.{advance_step, advance_stop}

-- an offset from both places
pub record Offset (x y a b : ℕ) : Type 0 where
  pub far : ℕ
  pub first : x ≡ a + far
  pub second : y ≡ b + far

step : (next : ℕ → ℕ) (limit k at : ℕ) → at ≤ limit → advance next limit (suc k) at ≡ advance next limit k (next at)
step next limit k at h = rw (add-one k) at (advance_step next limit k at h)

pub advance_moved :
    (f g : ℕ → ℕ) (a b l : ℕ) → ((i : ℕ) → i ≤ l → Offset (f (a + i)) (g (b + i)) a b) → (k i : ℕ) →
    Offset (advance f (a + l) k (a + i)) (advance g (b + l) k (b + i)) a b
unfolding advance
advance_moved f g a b l same zero i = record { far = i; first = refl; second = refl }
advance_moved f g a b l same (suc k) i =
    by_cases (dec_le i l)
    (λ h.
    let o = same i h in
    let m = advance_moved f g a b l same k o.far in
    record {
      far = m.far;
      first = step f (a + l) k (a + i) (omega arith) ∙ ap (advance f (a + l) k) o.first ∙ m.first;
      second = step g (b + l) k (b + i) (omega arith) ∙ ap (advance g (b + l) k) o.second ∙ m.second;
    })
    (λ h. record { far = i; first = advance_stop f (a + l) (suc k) (a + i) (omega arith); second = advance_stop g (b + l) (suc k) (b + i) (omega arith) })
