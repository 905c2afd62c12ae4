-- Req 05: what the byte stores of a call do to the header of a page s. Opening's first sets a byte of the opened time that is not zero,
-- closing's last clears it, and no other store touches it, or what stages 1 to 4 judge.
use Rattle.std.specs.Prelude.{ℕ, ◌+◌, ◌-◌, ◌≡◌, List, ◌++◌}
use Rattle.wire.specs.Bytes.{part, bytes_of, zeros}
use Rattle.record.specs.Chain.{header_end}
use Rattle.header.specs.Fields.{time_opened}
use Rattle.stores.specs.Stores.{Write, Apart}
use Rattle.stores.specs.Writes.{one_write}
use Rattle.correct.specs.FieldWrites.{first_set, Lowest}
use Rattle.correct.specs.Calls.{Role, Change}

-- writes that reach into fields from 40 up to 88 or from e - 4 on alone, and not into byte p; e is where the header ends
pub record Harmless (e p : ℕ) (ws : List Write) : Type 0 where
  pub low : Apart 0 40 ws
  pub high : Apart 88 (e - 4) ws
  pub mark : Apart p (p + 1) ws

-- the opened time as bytes, and where the lowest of them stands that is not zero
unfoldable pub time_bytes : List ℕ → List ℕ
time_bytes s = bytes_of 8 (time_opened s)

abbrev pub mark_of : List ℕ → ℕ
mark_of s = 48 + first_set (time_bytes s)

-- writes that begin with one at p and are harmless behind it
pub record Begins (e p : ℕ) (first : List ℕ) (ws : List Write) : Type 0 where
  pub middle : List Write
  pub whole : ws ≡ one_write p first ++ middle
  pub harmless : Harmless e p middle

-- writes that end with a zero at p and are harmless before it
pub record Ends (e p : ℕ) (ws : List Write) : Type 0 where
  pub before : List Write
  pub whole : ws ≡ before ++ one_write p (zeros 1)
  pub harmless : Harmless e p before

pub record SetsMark (e : ℕ) (page : List ℕ) (ws : List Write) : Type 0 where
  pub lowest : Lowest (time_bytes page)
  pub begins : Begins e (mark_of page) (part (time_bytes page) (first_set (time_bytes page)) 1) ws

pub record KeepsMark (e : ℕ) (s page : List ℕ) (ws : List Write) : Type 0 where
  pub harmless : Harmless e (mark_of s) ws
  pub time : time_opened page ≡ time_opened s

abbrev pub Marks : Role → List ℕ → Change → Type 0
Marks Role.Opens s c = SetsMark (header_end s) c.page c.writes
Marks Role.Works s c = KeepsMark (header_end s) s c.page c.writes
Marks Role.Closes s c = Ends (header_end s) (mark_of s) c.writes
