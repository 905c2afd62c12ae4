-- Document 01, stage 9; G Tables 17 and 18: the file-space directory.
use Rattle.std.specs.Prelude.{ℕ, ◌+◌, List, [], ◌∷◌, Bool, ◌||◌, eqb}
use Rattle.wire.specs.Tests.{◌≤?◌, ◌≡?◌, is, passes}
use Rattle.wire.specs.Bytes.{u32_at, u64_at, largest_integer}
use Rattle.header.specs.Fields.{file_space_reference}
use Rattle.record.specs.Record.{length_at, padded}
use Rattle.record.specs.Types.{free_type, file_space_directory_type}
use Rattle.check_directory.specs.References.{refers_or_zero, no_other}
use Rattle.bodies.specs.ListDirectories.{free_entry_at, free_count, file_space_at}
use Rattle.check_lists.specs.Listed.{listed_once, nothing_else}

-- the entry at p is that of the record at x: its own start and size
unfoldable pub free_entry_of : List ℕ → ℕ → ℕ → Bool
free_entry_of s x p = passes ((u64_at s p ≡? x) ∷ (u32_at s (p + 8) ≡? length_at s x) ∷ [])

unfoldable pub free_entry_is : List ℕ → ℕ → ℕ → Bool
free_entry_is s x k = free_entry_of s x (free_entry_at s k)

-- every free record is listed once; where the reference is zero there is no list, so there is no such record
unfoldable pub free_listed : List ℕ → Bool
free_listed s = listed_once s free_type (free_count s) (free_entry_is s)

-- the list has no other entry
unfoldable pub free_only : List ℕ → Bool
free_only s = nothing_else s free_type (free_count s) (free_entry_is s)

-- a file-space directory has at least one entry
unfoldable pub free_not_empty : List ℕ → Bool
free_not_empty s = passes ((1 ≤? free_count s) ∷ [])

-- where there is one: this, and its count, which is not negative, fits
unfoldable pub free_fits : List ℕ → Bool
free_fits s =
    eqb (file_space_reference s) 0
    || passes
    (is (free_not_empty s) ∷ (free_count s ≤? largest_integer) ∷ is (padded s (file_space_at s) (free_entry_at s (free_count s))) ∷ [])

unfoldable pub file_space_right : List ℕ → Bool
file_space_right s =
    passes
    (is (refers_or_zero s file_space_directory_type (file_space_reference s))
    ∷ is (no_other s file_space_directory_type (file_space_reference s)) ∷ is (free_fits s) ∷ is (free_listed s) ∷ is (free_only s) ∷ [])
