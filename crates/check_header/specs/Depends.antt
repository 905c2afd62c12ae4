-- What stages 1 to 5 depend on: the file's length, and the bytes up to the header's end. No sentence of document 01 asks it; by it a
-- file's first bytes and its length suffice for these stages.
use Rattle.std.specs.Prelude.{ℕ, max, ◌≡◌, List, [], ◌∷◌, take}
use Rattle.wire.specs.Pick.{pick}
use Rattle.wire.specs.Tests.{is, passes}
use Rattle.record.specs.Chain.{header_end}
use Rattle.check_header.specs.Identification.{identified, version_right}
use Rattle.check_header.specs.HeaderRecord.{length_right}
use Rattle.check_header.specs.Stages.{check_header}

-- how far they read: 16 bytes; where stages 1 and 2 pass, 24 bytes; where the header's length is lawful too, the whole header
unfoldable pub reach : List ℕ → ℕ → ℕ
reach s n = pick (passes (is (identified s n) ∷ is (version_right s) ∷ [])) (pick (length_right s n) (max 24 (header_end s)) 24) 16

-- bytes that agree as far as that get the same answer, for the same length of the file
abbrev pub DependsOnHeader : Type 0
DependsOnHeader = (s t : List ℕ) (n : ℕ) → take (reach s n) s ≡ take (reach s n) t → check_header s n ≡ check_header t n
