-- Small files and what is said of them, as one table: number, rule, position, found, wanted.
use Rattle.std.specs.Prelude.{ℕ, ◌≡◌, List, [], ◌∷◌, ◌++◌, map, replicate, Ok, Err}
use Rattle.answer.specs.Refusals.{refusal_number}
use Rattle.check_header.specs.Identification.{mark}
use Rattle.reasons.specs.Stages.{explained, Explained}
use Rattle.reasons.specs.HeadRows.{head_stages}

abbrev pub sample_numbers : Explained → List ℕ
sample_numbers (Ok accepted) = []
sample_numbers (Err z) = refusal_number z.refusal ∷ z.fault.rule ∷ z.fault.at ∷ z.fault.found ∷ z.fault.wanted ∷ []

-- no byte; 15 and 16 zeros; version 1.3; nothing behind the block; a header length of 12; one of 16 in a file of 24
abbrev pub files : List (List ℕ)
files =
    []
    ∷ replicate 15 0
    ∷ replicate 16 0
    ∷ (mark ++ (1 ∷ 3 ∷ 0 ∷ 0 ∷ []))
    ∷ (mark ++ (1 ∷ 4 ∷ 0 ∷ 0 ∷ []))
    ∷ (mark ++ (1 ∷ 4 ∷ 0 ∷ 0 ∷ 12 ∷ 0 ∷ 0 ∷ 0 ∷ 6 ∷ 0 ∷ 0 ∷ 0 ∷ []))
    ∷ (mark ++ (1 ∷ 4 ∷ 0 ∷ 0 ∷ 16 ∷ 0 ∷ 0 ∷ 0 ∷ 6 ∷ 0 ∷ 0 ∷ 0 ∷ []))
    ∷ []

abbrev pub SamplesHold : Type 0
SamplesHold =
    map (λ (s : List ℕ). sample_numbers (explained (head_stages s))) files
    ≡ (1 ∷ 1 ∷ 0 ∷ 0 ∷ 16 ∷ [])
    ∷ (1 ∷ 1 ∷ 0 ∷ 15 ∷ 16 ∷ [])
    ∷ (1 ∷ 2 ∷ 0 ∷ 0 ∷ 0 ∷ [])
    ∷ (2 ∷ 4 ∷ 13 ∷ 3 ∷ 4 ∷ [])
    ∷ (3 ∷ 8 ∷ 20 ∷ 0 ∷ 6 ∷ [])
    ∷ (3 ∷ 5 ∷ 16 ∷ 12 ∷ 8 ∷ [])
    ∷ (3 ∷ 7 ∷ 16 ∷ 32 ∷ 24 ∷ [])
    ∷ []
