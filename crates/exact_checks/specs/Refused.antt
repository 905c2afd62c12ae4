-- Document 01: "A check runs stages 1 to 9 in this order, each over the whole file before the next." Each refusal with the facts on which it
-- stands: the stages before it pass and its own fails, at the first record where it does.
use Rattle.std.specs.Prelude.{ℕ, ◌≡◌, Bool, true, false, length, Err, Ok}
use mathlib.Core.List.{List, ◌∷◌, ◌++◌, Memᴰ}
use Rattle.answer.specs.declared.Refusal.{Refusal}
use Rattle.answer.specs.declared.Refusal.TheVariants as refusal
use Rattle.record.specs.Chain.{header_end, records, Whole}
use Rattle.check_header.specs.Identification.{identified, version_right}
use Rattle.check_header.specs.HeaderRecord.{header_right}
use Rattle.check_header.specs.Ceilings.{within_ceilings}
use Rattle.check_header.specs.Stages.{closed}
use Rattle.check_records.specs.Checksum.{checksum_right}
use Rattle.check_records.specs.Faults.{BrokenAt, body_right}
use Rattle.check_lists.specs.Stage.{directories_right}
use Rattle.page_check.specs.Stages.{check, check_to_bodies}

-- stages 1 to 5 pass, one more each
abbrev pub Identified : List ℕ → Type 0
Identified s = identified s (length s) ≡ true

abbrev pub Versioned : List ℕ → Type 0
Versioned s = Identified s × (version_right s ≡ true)

abbrev pub HeaderRead : List ℕ → Type 0
HeaderRead s = Versioned s × (header_right s (length s) ≡ true)

abbrev pub BelowCeilings : List ℕ → Type 0
BelowCeilings s = HeaderRead s × (within_ceilings s (length s) ≡ true)

abbrev pub Closed : List ℕ → Type 0
Closed s = BelowCeilings s × (closed s ≡ true)

-- and stages 6 to 8, each over the whole file
abbrev pub Chained : List ℕ → Type 0
Chained s = Closed s × Whole s (header_end s) (records s)

abbrev pub Summed : List ℕ → Type 0
Summed s = Chained s × ((x : ℕ) → Memᴰ x (16 ∷ records s) → checksum_right s x ≡ true)

abbrev pub Bodied : List ℕ → Type 0
Bodied s = Summed s × ((x : ℕ) → Memᴰ x (records s) → body_right s x ≡ true)

-- x is the first of some records of which p does not hold
pub record FirstWrong (p : ℕ → Bool) (xs : List ℕ) (x : ℕ) : Type 0 where
  pub before : List ℕ
  pub behind : List ℕ
  pub all : xs ≡ before ++ (x ∷ behind)
  pub right : (y : ℕ) → Memᴰ y before → p y ≡ true
  pub wrong : p x ≡ false

-- why a file is refused; the numbers from 10 on are none of the check's
abbrev pub Reason : List ℕ → Refusal → Type 0
Reason s refusal.Identification = identified s (length s) ≡ false
Reason s refusal.Version = Identified s × (version_right s ≡ false)
Reason s refusal.Header = Versioned s × (header_right s (length s) ≡ false)
Reason s refusal.Ceiling = HeaderRead s × (within_ceilings s (length s) ≡ false)
Reason s refusal.Opened = BelowCeilings s × (closed s ≡ false)
Reason s (refusal.Chain x) = Closed s × BrokenAt s x
Reason s (refusal.Checksum x) = Chained s × FirstWrong (checksum_right s) (16 ∷ records s) x
Reason s (refusal.Body x) = Summed s × FirstWrong (body_right s) (records s) x
Reason s refusal.Directory = Bodied s × (directories_right s ≡ false)
Reason s refusal.OutsideGrid = ⊥
Reason s (refusal.Compressed x) = ⊥
Reason s refusal.Input = ⊥
Reason s refusal.Room = ⊥
Reason s (refusal.Malformed x) = ⊥
Reason s refusal.NotOpen = ⊥
Reason s refusal.Incomplete = ⊥

abbrev pub RefusedExactly : Type 0
RefusedExactly = (s : List ℕ) (r : Refusal) → (check s ≡ Err r → Reason s r) × (Reason s r → check s ≡ Err r)

-- the walk without stage 9: "its refusal of the check is then that of stages 1 to 8", whatever the directories hold
pub record WithoutNine (s : List ℕ) : Type 0 where
  pub accepted : check s ≡ Ok tt → check_to_bodies s ≡ Ok tt
  pub directory : check s ≡ Err refusal.Directory → check_to_bodies s ≡ Ok tt
  pub refused : (r : Refusal) → (r ≡ refusal.Directory → ⊥) → check s ≡ Err r → check_to_bodies s ≡ Err r

abbrev pub ToBodiesExactly : Type 0
ToBodiesExactly = (s : List ℕ) → WithoutNine s
