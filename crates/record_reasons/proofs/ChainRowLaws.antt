-- Stage 6: how many records stand behind the header, and what is said of what stands behind them. Assumes nothing.
use Prim.Native.Nat.{ℕ, ◌+◌, ◌≤◌, ◌<◌}
use mathlib.Core.Path.{◌≡◌, refl, sym, ap, ◌∙◌}
use mathlib.Core.List.{List, [], ◌∷◌}
use mathlib.Core.Bool.{true, false}
use native.Mathlib.Omega.{arith}
use lib.ListN.{length}
use Rattle.wire.specs.Lists.{select}
use borrow.Author.Tests.{le-leb, lt-leb}
use Rattle.record.specs.Chain.{records, records_end}
use Rattle.reasons.specs.Rows.{or_else, first_failing, Reason}
use Rattle.reasons.proofs.ReasonLaws.{first_none, first_joined}
use Rattle.record_reasons.specs.RecordRows.{extent_rows, type_rows, record_rows, chain_rows}
use Rattle.std.specs.Prelude.{Ok}

-- every record is one of those that are counted
pub select_each : (l : List ℕ) → select (λ x. true) l ≡ l
unfolding select
select_each [] = refl
select_each (x ∷ xs) = ap (λ (l : List ℕ). x ∷ l) (select_each xs)

-- the rows, joined

pub chain_kept : (s : List ℕ) (e : ℕ) → e ≡ records_end s → length s ≤ e → Ok tt ≡ first_failing (chain_rows s)
unfolding chain_rows
chain_kept s e p h = rw (← p, le-leb (length s) e h) (sym first_none)

pub chain_broken :
    (s : List ℕ) (e k : ℕ) (r : Reason) → e ≡ records_end s → k ≡ length (records s) → r ≡ first_failing (record_rows s k e) → e < length s →
    r ≡ first_failing (chain_rows s)
unfolding chain_rows
chain_broken s e k r p q f h = rw (← p, ← q, lt-leb (length s) e h) f
