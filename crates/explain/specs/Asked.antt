-- What is asked of each record of a type, by a closure that the caller hands over: where it may be asked, and the rows that its answers are
-- those of.
use Rattle.std.specs.Prelude.{ℕ, ◌≤◌, ◌<◌, ◌≡◌, List, length}
use Rattle.reasons.specs.Rows.{Row, Reason, first_failing}

-- of record number k of its type, which starts at x in the file s
abbrev pub Asks : List ℕ → (ℕ → ℕ → Type 0) → Type 0
Asks s pre = (k x : ℕ) → k ≤ x → x < length s → pre k x

-- the answer is the first of the rows f that fails
abbrev pub Tells : List ℕ → (ℕ → ℕ → Reason → Type 0) → (ℕ → ℕ → List Row) → Type 0
Tells s post f = (k x : ℕ) → k ≤ x → x < length s → (r : Reason) → post k x r → r ≡ first_failing (f k x)
