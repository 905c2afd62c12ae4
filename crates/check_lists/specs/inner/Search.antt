-- For `list_right`, `first_unlisted` and private functions of lists.rt; no rule of stage 9 rests on it.
-- The two lists by their names, and the first record that is not listed once.
use Rattle.std.specs.Prelude.{ℕ, List, [], ◌∷◌, Bool, None, Option}
use Rattle.wire.specs.Pick.{pick}
use Rattle.wire.specs.Tests.{◌≡?◌, ◌≢?◌, is, passes}
use Rattle.wire.specs.Lists.{count_below}
use Rattle.record.specs.Record.{type_at}
use Rattle.record.specs.Chain.{first_record, header_end}
use Rattle.record.specs.Types.{free_type, metadata_type}
use Rattle.check_lists.specs.declared.ListKind.{ListKind}
use Rattle.check_lists.specs.declared.ListKind.TheVariants.{FreeSpace, Metadata}
use Rattle.check_lists.specs.Listed.{listed_once, nothing_else}
use Rattle.check_lists.specs.FileSpace.{free_entry_of, free_entry_is, free_fits}
use Rattle.bodies.specs.ListDirectories.{free_count, free_entry_at, metadata_count, metadata_entry_at, metadata_entry_size}
use Rattle.check_lists.specs.Metadata.{metadata_entry_of, metadata_entry_is, metadata_fits}

-- the type of the records that a list is of
unfoldable pub listed_kind : ListKind → ℕ
listed_kind FreeSpace = free_type
listed_kind Metadata = metadata_type

-- how many entries it has, whether they fit, where each starts, the size of the one at p, and whether it is that of the record at x
unfoldable pub list_count : List ℕ → ListKind → ℕ
list_count s FreeSpace = free_count s
list_count s Metadata = metadata_count s

unfoldable pub list_fits : List ℕ → ListKind → Bool
list_fits s FreeSpace = free_fits s
list_fits s Metadata = metadata_fits s

unfoldable pub list_entry_at : List ℕ → ListKind → ℕ → ℕ
list_entry_at s FreeSpace = free_entry_at s
list_entry_at s Metadata = metadata_entry_at s

unfoldable pub list_entry_size : List ℕ → ListKind → ℕ → ℕ
list_entry_size s FreeSpace p = 12
list_entry_size s Metadata p = metadata_entry_size s p

unfoldable pub list_entry_of : List ℕ → ListKind → ℕ → ℕ → Bool
list_entry_of s FreeSpace = free_entry_of s
list_entry_of s Metadata = metadata_entry_of s

unfoldable pub list_entry_is : List ℕ → ListKind → ℕ → ℕ → Bool
list_entry_is s FreeSpace = free_entry_is s
list_entry_is s Metadata = metadata_entry_is s

-- a list fits its record, every record of its type is listed once, and nothing else is
unfoldable pub list_right : List ℕ → ListKind → Bool
list_right s list =
    passes
    (is (list_fits s list) ∷ is (listed_once s (listed_kind list) (list_count s list) (list_entry_is s list))
    ∷ is (nothing_else s (listed_kind list) (list_count s list) (list_entry_is s list)) ∷ [])

-- the record at x is of the list's type, and not listed once
unfoldable pub not_listed_once : List ℕ → ListKind → ℕ → Bool
not_listed_once s list x = passes ((type_at s x ≡? listed_kind list) ∷ (count_below (list_count s list) (list_entry_is s list x) ≢? 1) ∷ [])

-- the first such record; nothing where the entries do not fit
unfoldable pub first_unlisted : List ℕ → ListKind → Option ℕ
first_unlisted s list = pick (list_fits s list) (first_record s (header_end s) (not_listed_once s list)) None
