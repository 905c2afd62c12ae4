-- What `out` takes of an explanation: the place of the refusal, then the rule, the number of what breaks it, the position of its field,
-- what is found and what is wanted; zeros where the file is accepted.
use Rattle.std.specs.Prelude.{ℕ, List, [], ◌∷◌, replicate, Ok, Err}
use Rattle.answer.specs.Refusals.{refusal_number, refusal_place}
use Rattle.reasons.specs.Stages.{Explained}

abbrev pub explained_number : Explained → ℕ
explained_number (Ok accepted) = 0
explained_number (Err z) = refusal_number z.refusal

abbrev pub explained_numbers : Explained → List ℕ
explained_numbers (Ok accepted) = replicate 6 0
explained_numbers (Err z) =
    refusal_place z.refusal ∷ z.fault.rule ∷ z.fault.index ∷ z.fault.at ∷ z.fault.found ∷ z.fault.wanted ∷ []
