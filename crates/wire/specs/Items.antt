-- Items of varying length, one behind the other.
use Rattle.std.specs.Prelude.{ℕ, zero, suc, true, false, leb}

-- where k items from `at` on end, `next` giving where the item at a position ends. An item that starts past `limit` is not
-- read, nor any behind it: the answer is then that start. Where items only move forward, one that starts at or before
-- `limit` and ends past it gives an end past it, so one test of the answer says whether all of them end by `limit`
unfoldable pub advance : (ℕ → ℕ) → ℕ → ℕ → ℕ → ℕ
advance next limit zero at = at
advance next limit (suc k) at = elim (leb at limit) [ true ↦ advance next limit k (next at) | false ↦ at ]
