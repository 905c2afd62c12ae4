-- Req 05: byte stores in their order, as a list of writes.
use Rattle.std.specs.Prelude.{ℕ, ◌+◌, ◌-◌, ◌≤◌, ◌⊎◌, List, [], ◌∷◌, length, take, leb}
use Rattle.wire.specs.Pick.{pick}
use Rattle.wire.specs.Bytes.{put}

-- Req 05, reading 1: the bytes that are stored from a position on, lowest first, each a byte store
pub record Write : Type 0 where
  pub at : ℕ
  pub bytes : List ℕ

-- what a buffer holds behind them; a write that does not fit whole is none
unfoldable pub run : List Write → List ℕ → List ℕ
run [] d = d
run (w ∷ ws) d = run ws (put d w.at w.bytes)

-- how many byte stores they are
unfoldable pub store_count : List Write → ℕ
store_count [] = 0
store_count (w ∷ ws) = length w.bytes + store_count ws

-- the first k of a list, all of a shorter one
unfoldable pub first_bytes : ℕ → List ℕ → List ℕ
first_bytes k v = take k v

-- the first k byte stores of them
unfoldable pub cut : ℕ → List Write → List Write
cut k [] = []
cut k (w ∷ ws) = record { at = w.at; bytes = first_bytes k w.bytes } ∷ cut (k - length w.bytes) ws

-- Req 05: what a buffer holds when they stop after k byte stores
unfoldable pub stopped : ℕ → List Write → List ℕ → List ℕ
stopped k ws d = run (cut k ws) d

-- where byte store number k goes, counted from 0
unfoldable pub place : ℕ → List Write → ℕ
place k [] = 0
place k (w ∷ ws) = pick (leb (length w.bytes) k) (place (k - length w.bytes) ws) (w.at + k)

-- no write reaches into the bytes from a up to b
abbrev pub Apart : ℕ → ℕ → List Write → Type 0
Apart a b [] = Unit {0}
Apart a b (w ∷ ws) = ((w.at + length w.bytes ≤ a) ⊎ (b ≤ w.at)) × Apart a b ws

-- every write ends at or before n
abbrev pub Fits : ℕ → List Write → Type 0
Fits n [] = Unit {0}
Fits n (w ∷ ws) = (w.at + length w.bytes ≤ n) × Fits n ws
