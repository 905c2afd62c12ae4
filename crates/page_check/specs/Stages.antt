-- Document 01, 'Thirteen refusals': a check runs stages 1 to 9 in this order, each over the whole file before the next.
use Rattle.std.specs.Prelude.{ℕ, List, length, Err, None, Ok, Option, Result, Some, ⊤}
use Rattle.answer.specs.declared.Refusal.{Refusal}
use Rattle.answer.specs.declared.Refusal.TheVariants.{Chain, Checksum, Body, Directory}
use Rattle.answer.specs.Refusals.{gate, unless_refused}
use Rattle.check_header.specs.Stages.{check_header}
use Rattle.check_records.specs.Faults.{chain_fault, checksum_fault, body_fault}
use Rattle.check_lists.specs.Stage.{directories_right}

-- the refusal at the place of a fault, and what comes behind the stage where there is none
unfoldable pub unless : Option ℕ → (ℕ → Refusal) → Result ⊤ Refusal → Result ⊤ Refusal
unless None refusal behind = behind
unless (Some place) refusal behind = Err (refusal place)

-- stages 6 to 8, each over the whole file before the next, and what comes behind them
unfoldable pub check_records : List ℕ → Result ⊤ Refusal → Result ⊤ Refusal
check_records s behind = unless (chain_fault s) Chain (unless (checksum_fault s) Checksum (unless (body_fault s) Body behind))

-- stages 1 to 8
unfoldable pub check_to_bodies : List ℕ → Result ⊤ Refusal
check_to_bodies s = unless_refused Err (check_header s (length s)) (check_records s (Ok tt))

-- stage 9
unfoldable pub check_directories : List ℕ → Result ⊤ Refusal
check_directories s = gate (directories_right s) Directory (Ok tt)

-- stages 6 to 9 alone: nothing is said of stages 1 to 5, so a file that is opened for writing can be asked too
unfoldable pub check_from_records : List ℕ → Result ⊤ Refusal
check_from_records s = check_records s (check_directories s)

-- stages 1 to 9
unfoldable pub check : List ℕ → Result ⊤ Refusal
check s = unless_refused Err (check_header s (length s)) (check_from_records s)
