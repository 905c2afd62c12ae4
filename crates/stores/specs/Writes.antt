-- Req 05: the writes that every writer is made of.
use Rattle.std.specs.Prelude.{ℕ, ◌+◌, ◌-◌, List, [], ◌∷◌, length, leb}
use Rattle.wire.specs.Pick.{pick}
use Rattle.wire.specs.Bytes.{part, bytes_of}
use Rattle.written_records.specs.Pieces.{checksum_for}
use Rattle.stores.specs.Stores.{Write}

-- bytes at a position
unfoldable pub one_write : ℕ → List ℕ → List Write
one_write at v = record { at = at; bytes = v } ∷ []

-- the same where they fit whole into a buffer of so many bytes, and no write where they do not
unfoldable pub whole_write : ℕ → ℕ → List ℕ → List Write
whole_write room at v = pick (leb (at + length v) room) (one_write at v) []

-- in a buffer d: the last four of the n bytes from `at` on made the checksum of those before them, as the flag says
unfoldable pub seal_write : ℕ → ℕ → ℕ → List ℕ → List Write
seal_write flag at n d = one_write (at + (n - 4)) (bytes_of 4 (checksum_for flag (part d at (n - 4))))
