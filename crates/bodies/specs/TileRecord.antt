-- G Tables 15 and 16: the fields of a tile record.
use Rattle.std.specs.Prelude.{ℕ, ◌+◌, List, length, leb}
use Rattle.wire.specs.Pick.{pick}
use Rattle.wire.specs.Bytes.{u32_at}
use Rattle.wire.specs.Items.{advance}
use Rattle.header.specs.Fields.{element_count}
use Rattle.record.specs.Record.{record_limit}
use Rattle.geometry.specs.Sizes.{stored_size, cap}

-- G Table 15: the tile index
unfoldable pub tile_index : List ℕ → ℕ → ℕ
tile_index s at = u32_at s (at + 8)

-- G Table 16: behind an element's length of four bytes come that many bytes and 0 to 3 more
unfoldable pub section_end : List ℕ → ℕ → ℕ
section_end s p = p + stored_size (u32_at s p)

-- it has at most that length field and the bytes of the greatest length, brought to a multiple of 4
abbrev pub longest_section : ℕ
longest_section = 4 + cap

-- where the section of element e of the tile record at `at` starts, its length field; a section that starts past the
-- start of the record's checksum is not read; one that starts there, or overlaps it, ends past it
unfoldable pub section_at : List ℕ → ℕ → ℕ → ℕ
section_at s at e = advance (section_end s) (record_limit s at) e (at + 12)

-- where the section behind the one at p starts, in the tile record at `at`; p itself where it is past the start of the
-- record's checksum
unfoldable pub next_section : List ℕ → ℕ → ℕ → ℕ
next_section s at p = pick (leb p (record_limit s at)) (section_end s p) p

-- where element e's starts where `at` lies in the file; 0 where not
unfoldable pub section_start : List ℕ → ℕ → ℕ → ℕ
section_start s at e = pick (leb (length s) at) 0 (section_at s at e)

-- the length L of element e there, and where its content starts
unfoldable pub section_length : List ℕ → ℕ → ℕ → ℕ
section_length s at e = u32_at s (section_at s at e)

unfoldable pub element_content_at : List ℕ → ℕ → ℕ → ℕ
element_content_at s at e = section_at s at e + 4

-- where the last section ends
unfoldable pub tile_end : List ℕ → ℕ → ℕ
tile_end s at = section_at s at (element_count s)
