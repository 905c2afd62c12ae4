-- Req 12, the first half of the check: stages 1 to 5, from the first bytes of a file and its stated length. `s` is the bytes given, n
-- the stated length.
use Rattle.std.specs.Prelude.{ℕ, min, ◌≤◌, ◌<◌, ◌≡◌, List, [], ◌∷◌, Bool, true, ◌⊎◌, length, take, leb, Err, Ok, Result, ⊤}
use Rattle.answer.specs.declared.Refusal.{Refusal}
use Rattle.wire.specs.Pick.{pick}
use Rattle.wire.specs.Tests.{◌≤?◌, passes}
use Rattle.answer.specs.declared.Refusal.TheVariants.{Opened, Input, Incomplete}
use Rattle.answer.specs.Refusals.{gate}
use Rattle.record.specs.Chain.{header_end}
use Rattle.check_header.specs.Identification.{identified, version_right}
use Rattle.check_header.specs.HeaderRecord.{length_right, header_right}
use Rattle.check_header.specs.Stages.{closed, first_two, next_two, check_header}

-- 'More bytes than the stated length is 12'
unfoldable pub no_more : List ℕ → ℕ → Bool
no_more s n = passes ((length s ≤? n) ∷ [])

-- a stage that needs k bytes has them, or all of a shorter file
unfoldable pub given : ℕ → List ℕ → ℕ → Bool
given k s n = passes ((min k n ≤? length s) ∷ [])

-- 'and then, if the header's length is lawful, the whole header'
unfoldable pub header_given : List ℕ → ℕ → Bool
header_given s n = pick (length_right s n) (passes ((header_end s ≤? length s) ∷ [])) true

-- the first half: 12 before all else; 'stages 1 and 2 need 16 bytes, stage 3 needs 24', and the header. Stages 4 and 5 need no more
unfoldable pub check_start : List ℕ → ℕ → Result ⊤ Refusal
check_start s n =
    gate (no_more s n) Input
    (gate (given 16 s n) Incomplete
    (first_two s n
    (gate (given 24 s n) Incomplete
    (gate (header_given s n) Incomplete
    (next_two s n (header_right s n) (gate (closed s) Opened (Ok tt)))))))

-- how many first bytes the stage needs that answers 16
unfoldable pub needed : List ℕ → ℕ → ℕ
needed s n = min n (pick (leb 16 (length s)) (pick (leb 24 (length s)) (header_end s) 24) 16)

-- 12 is given exactly where more bytes are given than the file has
abbrev pub Twelve : Type 0
Twelve = (s : List ℕ) (n : ℕ) → (check_start s n ≡ Err Input → n < length s) × (n < length s → check_start s n ≡ Err Input)

-- 16 'is given at the first stage that needs a byte not given': which stage that is, and that it needs k bytes. Stages 1 and 2 need 16, or
-- all of a shorter file
pub record LacksBlock (s : List ℕ) (n k : ℕ) : Type 0 where
  pub needs : k ≡ min 16 n
  pub lacks : length s < k

-- stage 3, where they pass, needs 24
pub record LacksLength (s : List ℕ) (n k : ℕ) : Type 0 where
  pub block : min 16 n ≤ length s
  pub marked : identified s n ≡ true
  pub version : version_right s ≡ true
  pub needs : k ≡ min 24 n
  pub lacks : length s < k

-- and then the whole header, if its length is lawful
pub record LacksHeader (s : List ℕ) (n k : ℕ) : Type 0 where
  pub fields : min 24 n ≤ length s
  pub marked : identified s n ≡ true
  pub version : version_right s ≡ true
  pub lawful : length_right s n ≡ true
  pub needs : k ≡ header_end s
  pub lacks : length s < k

abbrev pub Lacks : List ℕ → ℕ → ℕ → Type 0
Lacks s n k = LacksBlock s n k ⊎ (LacksLength s n k ⊎ LacksHeader s n k)

-- 16 is given exactly where a stage lacks a byte, and that stage needs `needed` bytes; they are more than are given, and the file has them
pub record Incompletes (s : List ℕ) (n : ℕ) : Type 0 where
  pub lacking : check_start s n ≡ Err Incomplete → Lacks s n (needed s n)
  pub given_where : (k : ℕ) → Lacks s n k → (check_start s n ≡ Err Incomplete) × (k ≡ needed s n)
  pub in_file : check_start s n ≡ Err Incomplete → (length s < needed s n) × (needed s n ≤ n)

abbrev pub Sixteen : Type 0
Sixteen = (s : List ℕ) (n : ℕ) → Incompletes s n

-- of a whole file the first half is stages 1 to 5
abbrev pub WholeFile : Type 0
WholeFile = (s : List ℕ) → check_start s (length s) ≡ check_header s (length s)

-- 'any first answer but 12 and 16 is that of stages 1 to 5 on each file of that length which begins so'
abbrev pub BeginsSo : Type 0
BeginsSo =
    (s f : List ℕ) → take (length s) f ≡ s → (check_start s (length f) ≡ Err Input → ⊥) →
    (check_start s (length f) ≡ Err Incomplete → ⊥) → check_header f (length f) ≡ check_start s (length f)
