-- Document 01, stage 3: nothing else in the header is judged; reserved bytes and padding never are. Said of stages 1 to 4.
use Rattle.std.specs.Prelude.{ℕ, ◌-◌, ◌≤◌, ◌≡◌, List, true, length}
use Rattle.wire.specs.Bytes.{Same}
use Rattle.record.specs.Chain.{header_end}
use Rattle.check_header.specs.Identification.{identified, version_right}
use Rattle.check_header.specs.HeaderRecord.{header_right}
use Rattle.check_header.specs.Ceilings.{within_ceilings}

-- two lists of bytes, each with a whole header, that agree in what is judged: mark and version; the header's length and type; the
-- sides; the options; from the number of elements to the checksum
pub record SameJudged (s t : List ℕ) : Type 0 where
  pub block : Same s t 0 14
  pub frame : Same s t 16 21
  pub sides : Same s t 104 120
  pub options : Same s t 128 131
  pub rest : Same s t 280 (header_end s - 4)
  pub in_first : header_end s ≤ length s
  pub in_second : header_end s ≤ length t

-- each stage says the same of both, for the same length of the file; stage 4 is asked where stage 3 passes
pub record JudgedAlike (s t : List ℕ) (n : ℕ) : Type 0 where
  pub identification : identified s n ≡ identified t n
  pub version : version_right s ≡ version_right t
  pub header : header_right s n ≡ header_right t n
  pub ceilings : header_right s n ≡ true → within_ceilings s n ≡ within_ceilings t n

abbrev pub NothingElseJudged : Type 0
NothingElseJudged = (s t : List ℕ) (n : ℕ) → SameJudged s t → JudgedAlike s t n
