-- Writes that are harmless to the header of a page. Assumes nothing.
use Prim.Native.Nat.{ℕ, ◌+◌, ◌-◌, ◌≤◌, ◌<◌}
use native.Mathlib.Omega.{arith}
use mathlib.Core.Logic.{◌⊎◌, inl, inr, ⊎_elim}
use mathlib.Core.List.{List, [], ◌∷◌, ◌++◌}
use lib.ListN.{length}
use Rattle.stores.specs.Stores.{Write, Apart}
use Rattle.stores.specs.Writes.{one_write}
use Rattle.effects.proofs.MadeLaws.{apart_append}
use Rattle.lawful.specs.Marks.{Harmless}

pub harmless_none : (e p : ℕ) → Harmless e p []
harmless_none e p = record { low = _; high = _; mark = _ }

pub harmless_append : {e p : ℕ} {xs ys : List Write} → Harmless e p xs → Harmless e p ys → Harmless e p (xs ++ ys)
harmless_append {e} {p} {xs} {ys} a b =
    record {
      low = apart_append 0 40 xs ys a.low b.low;
      high = apart_append 88 (e - 4) xs ys a.high b.high;
      mark = apart_append p (p + 1) xs ys a.mark b.mark;
    }

-- writes behind the header
apart_inner : (a i j : ℕ) (ws : List Write) → Apart 0 a ws → j ≤ a → Apart i j ws
apart_inner a i j [] p h = _
apart_inner a i j (w ∷ ws) p h = (⊎_elim (λ k. inl (omega arith)) (λ k. inr (omega arith)) p.0, apart_inner a i j ws p.1 h)

pub harmless_behind : {e p : ℕ} {ws : List Write} → Apart 0 e ws → 88 ≤ e → p < 88 → Harmless e p ws
harmless_behind {e} {p} {ws} a h k =
    record {
      low = apart_inner e 0 40 ws a (omega arith);
      high = apart_inner e 88 (e - 4) ws a (omega arith);
      mark = apart_inner e p (p + 1) ws a (omega arith);
    }

-- one write, of a field, or of the checksum
pub harmless_field : {e p : ℕ} (at : ℕ) (v : List ℕ) → 40 ≤ at → at + length v ≤ 88 → (at + length v ≤ p) ⊎ (p + 1 ≤ at) → Harmless e p (one_write at v)
unfolding one_write
harmless_field at v g h a = record { low = (inr g, _); high = (inl h, _); mark = (a, _) }

pub harmless_seal : {e p : ℕ} (at : ℕ) (v : List ℕ) → 88 ≤ at → e - 4 ≤ at → p < 88 → Harmless e p (one_write at v)
unfolding one_write
harmless_seal at v g h k = record { low = (inr (omega arith), _); high = (inr h, _); mark = (inr (omega arith), _) }
