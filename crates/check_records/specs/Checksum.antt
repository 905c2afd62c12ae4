-- Document 01, stage 7; G 3.3.3 and Table 13: the checksum of a record, the header's too.
use Rattle.std.specs.Prelude.{ℕ, ◌+◌, ◌-◌, List, [], ◌∷◌, Bool, eqb}
use Rattle.wire.specs.Pick.{pick}
use Rattle.wire.specs.Tests.{◌≡?◌, passes}
use Rattle.wire.specs.Bytes.{u32_at}
use Rattle.crc32c.specs.Crc.{crc_part}
use Rattle.header.specs.Fields.{checksum_enabled}
use Rattle.record.specs.Record.{length_at, type_at}
use Rattle.record.specs.Types.{free_type}

-- how many bytes of a record of a type and a length are summed: all before the last four; of a free-space record the first
-- eight only
unfoldable pub summed_bytes : ℕ → ℕ → ℕ
summed_bytes kind length = pick (eqb kind free_type) 8 (length - 4)

-- what the last four bytes have to be: if checksums are on, the CRC32C of those bytes; if off, zero
unfoldable pub checksum_of : List ℕ → ℕ → ℕ
checksum_of s at = pick (eqb (checksum_enabled s) 1) (crc_part s at (summed_bytes (type_at s at) (length_at s at))) 0

-- the last four bytes of the record at `at`
unfoldable pub checksum_at : List ℕ → ℕ → ℕ
checksum_at s at = u32_at s (at + (length_at s at - 4))

unfoldable pub checksum_right : List ℕ → ℕ → Bool
checksum_right s at = passes ((checksum_at s at ≡? checksum_of s at) ∷ [])
