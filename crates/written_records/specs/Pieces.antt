-- Document 01, 'Laying down a page', and Req 03: a record put together from its body.
use Rattle.std.specs.Prelude.{ℕ, ◌+◌, ◌-◌, List, [], ◌∷◌, ◌++◌, length, eqb}
use Rattle.wire.specs.Pick.{pick, round_up}
use Rattle.wire.specs.Bytes.{bytes_of, part, put, zeros}
use Rattle.crc32c.specs.Crc.{crc_of}
use Rattle.geometry.specs.Sizes.{least_length}

-- checksums as the header's flag says: CRC32C of the bytes before it, or zero
unfoldable pub checksum_for : ℕ → List ℕ → ℕ
checksum_for flag bytes = pick (eqb flag 1) (crc_of bytes) 0

-- G 3.3.1: a record's length and its type; G Tables 15 and 21, offset 5: three reserved bytes
unfoldable pub record_head : ℕ → ℕ → List ℕ
record_head n kind = bytes_of 4 n ++ (kind ∷ []) ++ zeros 3

-- the length of a record with a body of n bytes
unfoldable pub record_length : ℕ → ℕ
record_length n = least_length (8 + n)

-- all of it but the checksum: the head, the body and the padding
unfoldable pub unclosed : ℕ → List ℕ → List ℕ
unclosed kind body =
    record_head (record_length (length body)) kind ++ body ++ zeros (record_length (length body) - 4 - (8 + length body))

unfoldable pub record_of : ℕ → ℕ → List ℕ → List ℕ
record_of flag kind body = unclosed kind body ++ bytes_of 4 (checksum_for flag (unclosed kind body))

-- in a buffer d: the last four of the n bytes from `at` on made the checksum of those before them
unfoldable pub sealed : ℕ → List ℕ → ℕ → ℕ → List ℕ
sealed flag d at n = put d (at + (n - 4)) (bytes_of 4 (checksum_for flag (part d at (n - 4))))

-- and before that zeros put from `end` up to them
unfoldable pub closed_at : ℕ → List ℕ → ℕ → ℕ → ℕ → List ℕ
closed_at flag d at end n = sealed flag (put d end (zeros (at + (n - 4) - end))) at n

-- G Table 16: an element's section of a tile record: its length L, which is U, its bytes, and zeros that bring L to a multiple of 4
unfoldable pub section : List ℕ → List ℕ
section bytes = bytes_of 4 (length bytes) ++ bytes ++ zeros (round_up 4 (length bytes) - length bytes)
