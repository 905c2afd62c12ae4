-- A search over the records by a test that the caller hands over: what may be asked of it, and what it decides.
use Rattle.std.specs.Prelude.{ℕ, ◌<◌, ◌≡◌, List, Bool, true, length}
use Rattle.record.specs.Record.{type_at, record_ok}

-- it may be asked of each record of s, by its type and its start
abbrev pub Askable : List ℕ → (ℕ → ℕ → Type 0) → Type 0
Askable s pre = (x : ℕ) → record_ok s x ≡ true → x < length s → pre (type_at s x) x

-- of each of them it answers whether p holds
abbrev pub Decides : List ℕ → (ℕ → ℕ → Bool → Type 0) → (ℕ → Bool) → Type 0
Decides s post p = (x : ℕ) → record_ok s x ≡ true → x < length s → (b : Bool) → post (type_at s x) x b → b ≡ p x
