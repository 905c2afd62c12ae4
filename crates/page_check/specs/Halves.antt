-- Req 12: the check in two halves. The first is `check_start`, of a file's first bytes and its stated length; the second takes the whole
-- file.
use Rattle.std.specs.Prelude.{◌≡◌, ℕ, List, length, take, Err, Ok, Result, ⊤}
use Rattle.answer.specs.declared.Refusal.{Refusal}
use Rattle.answer.specs.declared.Refusal.TheVariants.{Input, Incomplete}
use Rattle.answer.specs.Refusals.{unless_refused}
use Rattle.check_start.specs.Start.{check_start}
use Rattle.page_check.specs.Stages.{check_from_records, check}

-- 'The second half takes the whole file and begins by repeating the first': then stages 6 to 9
unfoldable pub check_rest : List ℕ → Result ⊤ Refusal
check_rest s = unless_refused Err (check_start s (length s)) (check_from_records s)

-- 'Together they answer as the old check did, on every file'
abbrev pub Together : Type 0
Together = (s : List ℕ) → check_rest s ≡ check s

-- the first half, on first bytes s of the file f: a refusal but 12 and 16 is the whole check's, and where it accepts, stages 6 to 9 decide
pub record DecidesOf (s f : List ℕ) : Type 0 where
  pub refuses : (r : Refusal) → check_start s (length f) ≡ Err r → (r ≡ Input → ⊥) → (r ≡ Incomplete → ⊥) → check f ≡ Err r
  pub accepts : check_start s (length f) ≡ Ok tt → check f ≡ check_from_records f

abbrev pub FirstDecides : Type 0
FirstDecides = (s f : List ℕ) → take (length s) f ≡ s → DecidesOf s f
