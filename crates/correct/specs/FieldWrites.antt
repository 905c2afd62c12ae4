-- Req 05: the writes of the header. Opening's first store sets a byte of the opened time that is not zero, and closing's last store clears
-- the last such byte (Req 05, reading 2).
use Rattle.std.specs.Prelude.{ℕ, suc, ◌+◌, ◌-◌, ◌<◌, ◌≡◌, List, [], ◌∷◌, ◌++◌, Bool, length, get_or, eqb}
use Rattle.wire.specs.Pick.{pick}
use Rattle.wire.specs.Bytes.{part, bytes_of, put, zeros}
use Rattle.record.specs.Record.{content_at}
use Rattle.stores.specs.Stores.{Write, run}
use Rattle.stores.specs.Writes.{one_write, seal_write}

-- Req 05, reading 3: the number of the lowest byte that is not zero; as many as there are where all are
unfoldable pub first_set : List ℕ → ℕ
first_set [] = 0
first_set (b ∷ bs) = pick (eqb b 0) (suc (first_set bs)) 0

-- that one of them is not zero
pub record Lowest (v : List ℕ) : Type 0 where
  pub inside : first_set v < length v
  pub set : get_or v (first_set v) 0 ≡ 0 → ⊥

-- bytes at a position, byte number p of them first, then those before it and those behind it
unfoldable pub set_writes : ℕ → List ℕ → ℕ → List Write
set_writes at v p = one_write (at + p) (part v p 1) ++ one_write at (part v 0 p) ++ one_write (at + (p + 1)) (part v (p + 1) (length v - (p + 1)))

-- opening: the opened time, the lowest byte that is not zero first; the file-space reference
unfoldable pub opened_field_writes : ℕ → List Write
opened_field_writes t = set_writes 48 (bytes_of 8 t) (first_set (bytes_of 8 t)) ++ one_write 56 (zeros 8)

-- a reference to the record that starts at n, if there is one
unfoldable pub refer_to : ℕ → Bool → ℕ → List Write
refer_to at there n = pick there (one_write at (bytes_of 8 (content_at n))) []

-- closing: the time modified, the file-space reference, and the opened time cleared but for byte number p
unfoldable pub closed_field_writes : ℕ → Bool → ℕ → ℕ → List Write
closed_field_writes t there n p = one_write 40 (bytes_of 8 t) ++ refer_to 56 there n ++ one_write 48 (zeros p) ++ one_write (48 + (p + 1)) (zeros (7 - p))

-- the checksum of the header with 48 to 55 zero, of a header that ends at `end`, in a buffer d that holds one byte of them yet
unfoldable pub seal_without : ℕ → ℕ → List ℕ → List Write
seal_without flag end d = seal_write flag 16 (end - 16) (put d 48 (zeros 8))

-- closing's writes to the header: those fields, the checksum, and byte p last
unfoldable pub closed_front_writes : ℕ → ℕ → ℕ → Bool → ℕ → ℕ → List ℕ → List Write
closed_front_writes flag end t there n p d =
    closed_field_writes t there n p ++ seal_without flag end (run (closed_field_writes t there n p) d) ++ one_write (48 + p) (zeros 1)
