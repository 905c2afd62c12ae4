-- For the tables and the loops of `crc_of` and `crc_without`; the checksum does not rest on it. A state after bits that are zero, and before
-- bytes.
use Rattle.std.specs.Prelude.{ℕ, zero, suc, ◌-◌, List, drop}
use Rattle.wire.specs.Bytes.{byte_at, part, put, zeros}
use Rattle.crc32c.specs.Crc.{crc_bit, crc_over}

-- the state c after n bits of zero
unfoldable pub over_bits : ℕ → ℕ → ℕ
over_bits zero c = c
over_bits (suc n) c = over_bits n (crc_bit c)

-- the state c, and the bytes of s from i on are still to come
unfoldable pub crc_from : ℕ → List ℕ → ℕ → ℕ
crc_from c s i = crc_over c (drop i s)

-- the byte at i as if those from `from` up to `to` were zero
unfoldable pub byte_without : List ℕ → ℕ → ℕ → ℕ → ℕ
byte_without s from to i = byte_at (put s from (zeros (to - from))) i

-- the bytes of which a checksum without these is
unfoldable pub part_without : List ℕ → ℕ → ℕ → ℕ → ℕ → List ℕ
part_without s at n from to = part (put s from (zeros (to - from))) at n
