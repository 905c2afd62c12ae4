-- Document 01, 'Laying down a page', and Req 03: the record of a tile whose elements are all uncompressed. f is a front, or a page that
-- begins with it; c are the cell bytes of the tile, all elements in order, no lengths, no padding.
use Rattle.std.specs.Prelude.{ℕ, zero, suc, List, [], ◌++◌}
use Rattle.wire.specs.Tests.{sum_below}
use Rattle.wire.specs.Bytes.{bytes_of, part}
use Rattle.record.specs.Types.{tile_type}
use Rattle.header.specs.Fields.{checksum_enabled, element_count}
use Rattle.geometry.specs.Sizes.{element_bytes}
use Rattle.written_records.specs.Pieces.{record_of, section}

-- the sections of the first n elements of a tile whose cell bytes are c, where u gives each element's uncompressed bytes
unfoldable pub sections_of : (ℕ → ℕ) → ℕ → List ℕ → List ℕ
sections_of u zero c = []
sections_of u (suc n) c = sections_of u n c ++ section (part c (sum_below n u) (u n))

unfoldable pub sections : List ℕ → ℕ → List ℕ → List ℕ
sections f n c = sections_of (element_bytes f) n c

-- G Tables 15 and 16: the tile index, then each section of n elements, as the flag for checksums says
unfoldable pub plain_record : ℕ → ℕ → (ℕ → ℕ) → ℕ → List ℕ → List ℕ
plain_record flag i u n c = record_of flag tile_type (bytes_of 4 i ++ sections_of u n c)

-- of all elements; a front that passes stage 4 has at most the 16 that `tile_bytes` counts
unfoldable pub tile_record : List ℕ → ℕ → List ℕ → List ℕ
tile_record f i c = plain_record (checksum_enabled f) i (element_bytes f) (element_count f) c
