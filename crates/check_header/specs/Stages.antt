-- Document 01, 'Thirteen refusals': stages 1 to 5 in their order. `s` is the bytes, n the file's length; of a whole file n
-- is the number of the bytes.
use Rattle.std.specs.Prelude.{ℕ, List, [], ◌∷◌, Bool, length, Ok, Result, ⊤}
use Rattle.answer.specs.declared.Refusal.{Refusal}
use Rattle.wire.specs.Tests.{◌≡?◌, is, passes}
use Rattle.answer.specs.declared.Refusal.TheVariants.{Identification, Version, Header, Ceiling, Opened}
use Rattle.answer.specs.Refusals.{gate}
use Rattle.header.specs.Fields.{time_opened}
use Rattle.record.specs.Chain.{header_end}
use Rattle.check_header.specs.Identification.{identified, version_right}
use Rattle.check_header.specs.HeaderRecord.{header_right}
use Rattle.check_header.specs.Ceilings.{within_ceilings}

-- stage 5: time opened for writing is zero
unfoldable pub closed : List ℕ → Bool
closed s = passes ((time_opened s ≡? 0) ∷ [])

-- stages 1 and 2, and what comes behind them
unfoldable pub first_two : List ℕ → ℕ → Result ⊤ Refusal → Result ⊤ Refusal
first_two s n behind = gate (identified s n) Identification (gate (version_right s) Version behind)

-- stages 3 and 4, where `header` says whether stage 3 passes, and what comes behind them
unfoldable pub next_two : List ℕ → ℕ → Bool → Result ⊤ Refusal → Result ⊤ Refusal
next_two s n header behind = gate header Header (gate (within_ceilings s n) Ceiling behind)

-- stages 1 to 4
unfoldable pub stages : List ℕ → ℕ → Bool → Result ⊤ Refusal → Result ⊤ Refusal
stages s n header behind = first_two s n (next_two s n header behind)

-- stages 1 to 5. Where the bytes end before the header does, the answer is that of these bytes and not of the file
unfoldable pub check_header : List ℕ → ℕ → Result ⊤ Refusal
check_header s n = stages s n (header_right s n) (gate (closed s) Opened (Ok tt))

-- a front by itself (document 01, 'Laying down a page'): the identification block and the header record, no byte more;
-- a longer one is at fault in stage 3
unfoldable pub front_right : List ℕ → Bool
front_right s = passes (is (header_right s (length s)) ∷ (header_end s ≡? length s) ∷ [])

-- stages 1 to 4 for a front taken by itself, its own length being the file's
unfoldable pub check_front : List ℕ → Result ⊤ Refusal
check_front s = stages s (length s) (front_right s) (Ok tt)
