-- What a writer promises that goes on behind others: where it ends, whether or not the text fits, and that the text is put where it
-- fits.
use Rattle.std.specs.Prelude.{ℕ, ◌+◌, ◌≤◌, ◌≡◌, List, length}
use Rattle.wire.specs.Bytes.{put}

-- from `at` on it has made d to l, with the text v, and ends at r
pub record Puts (d : List ℕ) (at : ℕ) (v : List ℕ) (r : ℕ) (l : List ℕ) : Type 0 where
  pub end : r ≡ at + length v
  pub holds : at + length v ≤ length d → l ≡ put d at v

-- a line has at most a word of 9 bytes, 4 bytes between two numbers of 20 digits, and its end; four lines stand before the indexes
abbrev pub most_line : ℕ
most_line = 54

-- no line starts further on
abbrev pub most_text : ℕ
most_text = 4294967296
