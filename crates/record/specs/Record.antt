-- Document 01, stage 6; G 3.3 and Table 1: what a record is, and what a cursor finds.
use Rattle.std.specs.Prelude.{ℕ, ◌+◌, ◌-◌, ◌%◌, min, ◌≡◌, List, [], ◌∷◌, Bool, length, leb}
use Rattle.wire.specs.Pick.{pick}
use Rattle.wire.specs.Tests.{◌≤?◌, ◌≡?◌, passes}
use Rattle.wire.specs.Bytes.{byte_at, u32_at, largest_integer}
use Rattle.record.specs.declared.Step.{Step}
use Rattle.record.specs.declared.Step.TheVariants.{Record, Bad, End}
use Rattle.record.specs.Types.{tile_directory_type}

-- G 3.3.1: a record begins with its length, in bytes
abbrev pub length_at : List ℕ → ℕ → ℕ
length_at s at = u32_at s at

-- and its type
abbrev pub type_at : List ℕ → ℕ → ℕ
type_at s at = byte_at s (at + 4)

-- a record's content stands behind its first eight bytes (G 3.3.4)
abbrev pub content_at : ℕ → ℕ
content_at at = at + 8

-- a record at `at`: its length is a multiple of 8, at least 16, not negative, and ends inside the file; its type is 0 to 5
unfoldable pub record_ok : List ℕ → ℕ → Bool
record_ok s at =
    passes
    ((16 ≤? length_at s at) ∷ (length_at s at ≤? largest_integer) ∷ (length_at s at % 8 ≡? 0)
    ∷ (at + length_at s at ≤? length s) ∷ (type_at s at ≤? tile_directory_type) ∷ [])

-- where the checksum of the record at `at` starts, its last four bytes, if it ends inside the file; otherwise four before the
-- file's end, which only bounds the reading
unfoldable pub record_limit : List ℕ → ℕ → ℕ
record_limit s at = min (at + length_at s at) (length s) - 4

-- entries that end at `end` fit their record with 0 to 7 padding bytes before the checksum (document 01, stage 9)
unfoldable pub padded : List ℕ → ℕ → ℕ → Bool
padded s at end = passes ((end ≤? record_limit s at) ∷ (record_limit s at ≤? end + 7) ∷ [])

-- what a cursor at `at` finds: the file's end; a record, its type and extent and the cursor behind it; or a bad record
unfoldable pub step_at : List ℕ → ℕ → Step
step_at s at =
    pick (leb (length s) at) End
    (pick (record_ok s at) (Record (type_at s at) at (length_at s at) (record { at = at + length_at s at })) Bad)

-- a type and a length are those of the record at `at`, as a cursor's step hands them on
pub record Told (s : List ℕ) (kind at long : ℕ) : Type 0 where
  pub type_is : kind ≡ type_at s at
  pub length_is : long ≡ length_at s at
