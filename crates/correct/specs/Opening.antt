-- Req 03, opening: "sets the opened time to a number the caller gives, frees the file-space directory, its reference then zero, and
-- replaces a tile directory that doesn't list every tile by a full compact one at the end". s is the page, t the time.
use Rattle.std.specs.Prelude.{ℕ, ◌+◌, ◌/◌, List, [], ◌∷◌, ◌++◌, Bool, not, ◌&&◌, ◌||◌, length, take, eqb}
use Rattle.wire.specs.Pick.{pick}
use Rattle.wire.specs.Bytes.{bytes_of, put, zeros}
use Rattle.record.specs.Types.{file_space_directory_type, tile_directory_type}
use Rattle.record.specs.Record.{type_at, content_at}
use Rattle.record.specs.Chain.{header_end, joined}
use Rattle.header.specs.Fields.{checksum_enabled}
use Rattle.bodies.specs.TileDirectory.{tile_reference}
use Rattle.written_records.specs.Pieces.{record_of}
use Rattle.written_records.specs.Directory.{directory_of}
use Rattle.pieces.specs.Pieces.{pieces, freeing}
use Rattle.writable.specs.Writable.{directory_full}
use Rattle.correct.specs.Front.{sealed_front}

-- Req 03, reading 7: a compact reference to what the page's directory gives for tile i
unfoldable pub compact_of : List ℕ → ℕ → ℕ
compact_of s i = tile_reference s i / 8

-- Req 03, readings 4, 6 and 7: a directory of every tile of the grid, references kept
unfoldable pub full_directory : List ℕ → List ℕ
full_directory s = record_of (checksum_enabled s) tile_directory_type (directory_of s (compact_of s))

-- it is put at the end, where the page's own directory is not full; one that is full stays as it is, with standard references too
unfoldable pub opened_more : List ℕ → List (List ℕ)
opened_more s = pick (directory_full s) [] (full_directory s ∷ [])

-- Req 03, readings 6 and 7: the record at x in t, which is the page or one of its pieces, is freed: a file-space directory, and a tile
-- directory that is replaced
unfoldable pub unwanted : List ℕ → List ℕ → ℕ → Bool
unwanted s t x = eqb (type_at t x) file_space_directory_type || (not (directory_full s) && eqb (type_at t x) tile_directory_type)

-- Req 03, reading 15: the opened time is set and the file-space reference zero; the time modified stays
unfoldable pub opened_fields : List ℕ → ℕ → List ℕ
opened_fields s t = put (put (take (header_end s) s) 48 (bytes_of 8 t)) 56 (zeros 8)

-- the tile directory's reference is that of the new one, which starts where the page ended
unfoldable pub opened_reference : List ℕ → List ℕ → List ℕ
opened_reference s f = pick (directory_full s) f (put f 80 (bytes_of 8 (content_at (length s))))

unfoldable pub opened_front : List ℕ → ℕ → List ℕ
opened_front s t = sealed_front s (opened_reference s (opened_fields s t))

-- Req 03, readings 8 and 9: what is freed is joined with what is free beside it, and so are free records that adjoined before; metadata and
-- tile records keep place and bytes (Req 03, reading 20)
unfoldable pub opened_page : List ℕ → ℕ → List ℕ
opened_page s t = opened_front s t ++ joined (freeing (checksum_enabled s) (λ r. unwanted s r 0) (pieces s) ++ opened_more s)

-- Req 03, reading 4: room is needed for the new directory alone, and at the end alone
unfoldable pub opened_length : List ℕ → ℕ
opened_length s = length s + length (joined (opened_more s))
