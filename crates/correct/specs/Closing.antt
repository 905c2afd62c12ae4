-- Req 03, closing: "takes a new modified time, writes the free list, ascending, as a directory at the file's end if there is any free
-- record, and sets the opened time to zero". s is the page, t the time.
use Rattle.std.specs.Prelude.{ℕ, ◌+◌, List, [], ◌∷◌, ◌++◌, Bool, length, take}
use Rattle.wire.specs.Pick.{pick}
use Rattle.wire.specs.Tests.{◌≤?◌, passes}
use Rattle.wire.specs.Bytes.{bytes_of, put, zeros}
use Rattle.record.specs.Types.{free_type, file_space_directory_type}
use Rattle.record.specs.Record.{length_at, content_at}
use Rattle.record.specs.Chain.{header_end, records_of, joined}
use Rattle.header.specs.Fields.{checksum_enabled}
use Rattle.written_records.specs.Pieces.{record_of}
use Rattle.pieces.specs.Pieces.{pieces}
use Rattle.correct.specs.Front.{sealed_front}

-- G Table 18: the start and the length of each free record at the positions xs
unfoldable pub free_entry_bytes : List ℕ → List ℕ → List ℕ
free_entry_bytes s [] = []
free_entry_bytes s (x ∷ xs) = bytes_of 8 x ++ bytes_of 4 (length_at s x) ++ free_entry_bytes s xs

-- G Table 17, Req 03, reading 17: how many there are, and each of them, by start, ascending
unfoldable pub free_list : List ℕ → List ℕ
free_list s = bytes_of 4 (length (records_of s free_type)) ++ free_entry_bytes s (records_of s free_type)

unfoldable pub file_space_record : List ℕ → List ℕ
file_space_record s = record_of (checksum_enabled s) file_space_directory_type (free_list s)

unfoldable pub any_free : List ℕ → Bool
any_free s = passes ((1 ≤? length (records_of s free_type)) ∷ [])

-- Req 03, readings 4 and 17: it is put at the end, where there is a free record
unfoldable pub closed_more : List ℕ → List (List ℕ)
closed_more s = pick (any_free s) (file_space_record s ∷ []) []

-- Req 03, reading 15: the time modified is set, the opened time is zero
unfoldable pub closed_fields : List ℕ → ℕ → List ℕ
closed_fields s t = put (put (take (header_end s) s) 40 (bytes_of 8 t)) 48 (zeros 8)

-- the file-space reference is that of the directory, which starts where the page ended; without one it is zero already
unfoldable pub closed_reference : List ℕ → List ℕ → List ℕ
closed_reference s f = pick (any_free s) (put f 56 (bytes_of 8 (content_at (length s)))) f

unfoldable pub closed_front : List ℕ → ℕ → List ℕ
closed_front s t = sealed_front s (closed_reference s (closed_fields s t))

unfoldable pub closed_page : List ℕ → ℕ → List ℕ
closed_page s t = closed_front s t ++ joined (pieces s ++ closed_more s)

-- Req 03, reading 4: room is needed for the directory alone, and at the end alone
unfoldable pub closed_length : List ℕ → ℕ
closed_length s = length s + length (joined (closed_more s))
