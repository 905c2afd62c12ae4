-- Req 05: the byte stores of each call, in their order. d is the buffer, s the page in it. Where a value depends on what was written
-- before, as a checksum over the buffer's own bytes does, the list is `xs ++ more (run xs d)`.
-- They are said of any bytes. That they make the page that the call is to make, where it is not refused, is a law.
use Rattle.std.specs.Prelude.{ℕ, ◌+◌, ◌-◌, List, [], ◌++◌, Bool, false, not, length, None, Option, Some}
use Rattle.wire.specs.Pick.{pick}
use Rattle.wire.specs.Bytes.{part, bytes_of}
use Rattle.record.specs.Record.{length_at, content_at}
use Rattle.record.specs.Chain.{header_end, records, joined}
use Rattle.header.specs.Fields.{checksum_enabled, metadata_reference, tile_directory_reference}
use Rattle.header.specs.Element.{entries_read}
use Rattle.geometry.specs.Sizes.{element_bytes, plain_tile_length}
use Rattle.bodies.specs.TileDirectory.{tile_directory_at, reference_size}
use Rattle.tile_routes.specs.Ways.{carries}
use Rattle.written_records.specs.Tile.{plain_record}
use Rattle.pieces.specs.Edits.{room_for}
use Rattle.writable.specs.Writable.{directory_full}
use Rattle.stores.specs.Stores.{Write, run}
use Rattle.stores.specs.Writes.{one_write, whole_write, seal_write}
use Rattle.correct.specs.Opening.{unwanted, full_directory}
use Rattle.correct.specs.Storing.{tile_referred, stored_over, freed_of, stored_at}
use Rattle.correct.specs.Removing.{is_there}
use Rattle.correct.specs.Closing.{file_space_record, any_free}
use Rattle.correct.specs.Squeezing.{moved_to, squeezed_pieces}
use Rattle.correct.specs.RecordWrites.{join_writes, rest_writes, over_writes, refer_writes}
use Rattle.correct.specs.FieldWrites.{first_set, opened_field_writes, refer_to, closed_front_writes}

-- the records of page s of which p holds freed, and what is free joined
unfoldable pub freeing_writes : ℕ → List ℕ → (ℕ → Bool) → List Write
freeing_writes room s p = join_writes room (checksum_enabled s) s p (header_end s) (header_end s) false (records s)

-- the new directory behind the page, where its own is replaced
unfoldable pub directory_writes : ℕ → List ℕ → List Write
directory_writes room s = pick (directory_full s) [] (whole_write room (length s) (full_directory s))

-- opening: the opened time and the file-space reference, the new directory and the reference to it, what is freed and joined, and the
-- header's checksum last
unfoldable pub open_body : ℕ → List ℕ → ℕ → List Write
open_body room s t =
    opened_field_writes t ++ directory_writes room s ++ refer_to 80 (not (directory_full s)) (length s)
    ++ freeing_writes room s (unwanted s s)

unfoldable pub open_writes : List ℕ → List ℕ → ℕ → List Write
open_writes d s t =
    open_body (length d) s t ++ seal_write (checksum_enabled s) 16 (header_end s - 16) (run (open_body (length d) s t) d)

-- the reference to tile i, and the directory's checksum, behind other writes xs
unfoldable pub then_refer : List ℕ → ℕ → ℕ → List Write → List ℕ → List Write
then_refer s i content xs d =
    xs ++ refer_writes (checksum_enabled s) (tile_directory_at s) (length_at s (tile_directory_at s)) (reference_size s) i content (run xs d)

-- storing a tile anew: its old record freed, if it has one; the new record, and what is left over of the free record that it takes
unfoldable pub new_writes : ℕ → List ℕ → ℕ → List ℕ → List Write
new_writes room s i c =
    freeing_writes room s (carries s i)
    ++ whole_write room (stored_at s i) (plain_record (checksum_enabled s) i (element_bytes s) (entries_read s) c)
    ++ rest_writes room (checksum_enabled s) (stored_at s i + plain_tile_length s) (room_for (plain_tile_length s) (freed_of s i) - plain_tile_length s)

-- storing over the plain record at x
abbrev pub over_found : List ℕ → List ℕ → List ℕ → Option ℕ → List Write
over_found d s c None = []
over_found d s c (Some x) = over_writes (checksum_enabled s) x (length_at s x) (element_bytes s) (entries_read s) c d

unfoldable pub store_writes : List ℕ → List ℕ → ℕ → List ℕ → List Write
store_writes d s i c =
    pick (stored_over s i) (over_found d s c (tile_referred s i)) (then_refer s i (content_at (stored_at s i)) (new_writes (length d) s i c) d)

-- removing: the record freed, its reference zero; absent, none
unfoldable pub remove_writes : List ℕ → List ℕ → ℕ → List Write
remove_writes d s i = pick (is_there s i) (then_refer s i 0 (freeing_writes (length d) s (carries s i)) d) []

-- closing: the list of free records, if there are any, then the header
unfoldable pub list_writes : ℕ → List ℕ → List Write
list_writes room s = pick (any_free s) (whole_write room (length s) (file_space_record s)) []

unfoldable pub close_writes : List ℕ → List ℕ → ℕ → List Write
close_writes d s t =
    list_writes (length d) s
    ++ closed_front_writes (checksum_enabled s) (header_end s) t (any_free s) (length s) (first_set (part s 48 8)) (run (list_writes (length d) s) d)

-- squeezing: all records and gaps in one go, lowest byte first, so no byte is read where one was stored; then the header
unfoldable pub squeeze_body : List ℕ → List ℕ → List Write
squeeze_body s ps =
    one_write (header_end s) (joined (squeezed_pieces s ps)) ++ one_write 64 (bytes_of 8 (moved_to s ps (metadata_reference s)))
    ++ one_write 80 (bytes_of 8 (moved_to s ps (tile_directory_reference s)))

unfoldable pub squeeze_writes : List ℕ → List ℕ → List ℕ → List Write
squeeze_writes d s ps = squeeze_body s ps ++ seal_write (checksum_enabled s) 16 (header_end s - 16) (run (squeeze_body s ps) d)
