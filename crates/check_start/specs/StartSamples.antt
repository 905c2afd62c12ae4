-- Req 12's samples of the first half, as one table: the bytes given, the stated length, the answer, and how many first bytes the stage
-- needs that answers 16, 0 where the answer is another.
use Rattle.std.specs.Prelude.{ℕ, ◌≡◌, List, [], ◌∷◌, ◌++◌, map, eqb}
use Rattle.wire.specs.Pick.{pick}
use Rattle.wire.specs.Bytes.{zeros}
use Rattle.answer.specs.Refusals.{verdict_number, verdict_place}
use Rattle.check_header.specs.Identification.{mark}
use Rattle.check_start.specs.Start.{check_start, needed}

pub record Begun : Type 0 where
  pub bytes : List ℕ
  pub stated : ℕ
  pub answer : ℕ
  pub needs : ℕ

abbrev pub begun : List ℕ → ℕ → ℕ → ℕ → Begun
begun s n a k = record { bytes = s; stated = n; answer = a; needs = k }

-- a first block of a version 1.v
abbrev pub block : ℕ → List ℕ
block v = mark ++ (1 ∷ v ∷ 0 ∷ 0 ∷ [])

-- and the length and the type of a header: 1000 and 5, which is no header's type; 2147483640, past every stated length below, and 6
abbrev pub wrong_type : List ℕ
wrong_type = block 4 ++ (232 ∷ 3 ∷ 0 ∷ 0 ∷ 5 ∷ 0 ∷ 0 ∷ 0 ∷ [])

abbrev pub past_file : List ℕ
past_file = block 4 ++ (248 ∷ 255 ∷ 255 ∷ 127 ∷ 6 ∷ 0 ∷ 0 ∷ 0 ∷ [])

-- stages 1 and 2 ask for 16 bytes and no more, also of a longer file; a length past the file's end is 3 at once, and asks for no byte
abbrev pub beginnings : List Begun
beginnings =
    begun (zeros 0) 0 1 0
    ∷ begun (zeros 0) 1 16 1
    ∷ begun (zeros 1) 0 12 0
    ∷ begun (zeros 15) 16 16 16
    ∷ begun (zeros 16) 16 1 0
    ∷ begun (zeros 15) 1000 16 16
    ∷ begun (zeros 16) 1000 1 0
    ∷ begun (block 3) 1000 2 0
    ∷ begun (block 4) 1000 16 24
    ∷ begun (block 4) 16 3 0
    ∷ begun (block 4) 20 16 20
    ∷ begun (block 4 ++ zeros 4) 20 3 0
    ∷ begun wrong_type 1016 16 1016
    ∷ begun wrong_type 1015 3 0
    ∷ begun past_file 1000 3 0
    ∷ []

abbrev pub needed_then : Begun → ℕ
needed_then b = pick (eqb (verdict_number (check_start b.bytes b.stated)) 16) (needed b.bytes b.stated) 0

pub record StartsHold : Type 0 where
  pub answers : map (λ (b : Begun). verdict_number (check_start b.bytes b.stated)) beginnings ≡ map (λ (b : Begun). b.answer) beginnings
  -- each at place 0
  pub places : map (λ (b : Begun). verdict_place (check_start b.bytes b.stated)) beginnings ≡ map (λ (b : Begun). 0) beginnings
  pub needs : map needed_then beginnings ≡ map (λ (b : Begun). b.needs) beginnings
