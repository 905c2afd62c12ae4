-- The records behind each other, taken one by one.
use Rattle.std.specs.Prelude.{ℕ, ◌+◌, ◌≡◌, List, true, false, Option, None, Some}
use Rattle.record.specs.Record.{type_at, length_at, record_ok}

-- what is taken at a position of s: nothing where no record stands, and then it stays there, and else the record's type and start, and
-- then it goes on behind the record; the file is the same
abbrev pub Walked : List ℕ → ℕ → Option (ℕ × ℕ) → List ℕ → ℕ → Type 0
Walked s at None t next = (t ≡ s) × (record_ok s at ≡ false) × (next ≡ at)
Walked s at (Some x) t next = (t ≡ s) × (record_ok s at ≡ true) × (x ≡ (type_at s at, at)) × (next ≡ at + length_at s at)
