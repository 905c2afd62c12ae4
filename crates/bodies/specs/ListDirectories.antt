-- G Tables 17 to 20: the fields of the file-space directory and of the metadata directory.
use Rattle.std.specs.Prelude.{ℕ, ◌+◌, ◌*◌, ◌-◌, List, eqb}
use Rattle.wire.specs.Pick.{pick}
use Rattle.wire.specs.Bytes.{u32_at}
use Rattle.wire.specs.Items.{advance}
use Rattle.header.specs.Fields.{file_space_reference, metadata_reference}
use Rattle.header.specs.Element.{string_size}
use Rattle.record.specs.Record.{record_limit}

-- Tables 17 and 19: the number of entries that the file-space or metadata directory lists, its content's first field; none where
-- the reference is zero
unfoldable pub entry_count : List ℕ → ℕ → ℕ
entry_count s reference = pick (eqb reference 0) 0 (u32_at s reference)

unfoldable pub file_space_at : List ℕ → ℕ
file_space_at s = file_space_reference s - 8

-- Table 17: the number of free-space records listed; none where the reference is zero
unfoldable pub free_count : List ℕ → ℕ
free_count s = entry_count s (file_space_reference s)

-- Table 18: entry k has eight bytes, the start of a free-space record (G 3.3.4: not its content), and four, its whole length
unfoldable pub free_entry_at : List ℕ → ℕ → ℕ
free_entry_at s k = file_space_at s + 12 + 12 * k

unfoldable pub metadata_at : List ℕ → ℕ
metadata_at s = metadata_reference s - 8

-- Table 19: the number of metadata records listed; none where the reference is zero
unfoldable pub metadata_count : List ℕ → ℕ
metadata_count s = entry_count s (metadata_reference s)

-- Table 20: the size of the entry at p, a position of eight bytes, a string, four bytes and one; and where it ends
unfoldable pub metadata_entry_size : List ℕ → ℕ → ℕ
metadata_entry_size s p = 8 + string_size s (p + 8) + 5

unfoldable pub metadata_entry_end : List ℕ → ℕ → ℕ
metadata_entry_end s p = p + metadata_entry_size s p

-- where entry k starts; an entry that starts past the start of the record's checksum is not read
unfoldable pub metadata_entry_at : List ℕ → ℕ → ℕ
metadata_entry_at s k = advance (metadata_entry_end s) (record_limit s (metadata_at s)) k (metadata_at s + 12)
