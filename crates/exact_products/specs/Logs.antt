-- Req 14: a correction log as the bytes of its entries, both ways: the log of some entries is right and has their calls, and what is
-- right is the log of some. m is the number of tiles, t the number of bytes of a tile.
use Rattle.std.specs.Prelude.{ℕ, ◌+◌, ◌≤◌, ◌<◌, ◌≡◌, List, [], ◌∷◌, ◌++◌, map, true, length}
use Rattle.wire.specs.Bytes.{Bytes}
use Rattle.wire.specs.Big.{big_of}
use Rattle.correction_logs.specs.Log.{log_right}
use Rattle.correct.specs.Calls.{Call}
use Rattle.replay.specs.Entries.{calls_from}

pub data LogEntry : Type 0 where
  Store : ℕ → List ℕ → LogEntry
  Remove : ℕ → LogEntry

-- "one byte (1 store, 2 remove), a four-byte big-endian tile index and, for a store, the tile's bytes"
abbrev pub entry_bytes : LogEntry → List ℕ
entry_bytes (Store i c) = 1 ∷ (big_of 4 i ++ c)
entry_bytes (Remove i) = 2 ∷ big_of 4 i

abbrev pub body_of : List LogEntry → List ℕ
body_of [] = []
body_of (x ∷ xs) = entry_bytes x ++ body_of xs

-- "four-byte big-endian length of the rest, version byte 1, then entries"
unfoldable pub log_of : List LogEntry → List ℕ
log_of xs = big_of 4 (1 + length (body_of xs)) ++ (1 ∷ body_of xs)

abbrev pub call_of : LogEntry → Call
call_of (Store i c) = Call.Storing i c
call_of (Remove i) = Call.Removing i

-- entries of a page: no index past the tiles, and the bytes of one tile each
abbrev pub EntryFits : ℕ → ℕ → LogEntry → Type 0
EntryFits m t (Store i c) = (i < m) × (length c ≡ t)
EntryFits m t (Remove i) = i < m

abbrev pub EachFits : ℕ → ℕ → List LogEntry → Type 0
EachFits m t [] = Unit {0}
EachFits m t (x ∷ xs) = EntryFits m t x × EachFits m t xs

pub record Logged (m t : ℕ) (xs : List LogEntry) (log : List ℕ) : Type 0 where
  pub fits : EachFits m t xs
  pub bytes : log ≡ log_of xs
  pub right : log_right m t log ≡ true
  pub calls : calls_from m t log 5 ≡ map call_of xs

-- an index of a tile, and the length, have four bytes
abbrev pub LogWritten : Type 0
LogWritten =
    (m t : ℕ) → m ≤ 4294967296 → (xs : List LogEntry) → EachFits m t xs → 1 + length (body_of xs) < 4294967296 → Logged m t xs (log_of xs)

abbrev pub LogRead : Type 0
LogRead = (m t : ℕ) → m ≤ 4294967296 → (log : List ℕ) → Bytes log → log_right m t log ≡ true → (xs : List LogEntry) × Logged m t xs log
