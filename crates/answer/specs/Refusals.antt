-- Document 01, 'Thirteen refusals': the number and the place of each. Document 02 adds 14, at the tile
-- record, where compressed content is malformed (Req 01), 15, place 0, where a page is not open for writing (Req 03), and 16, place
-- 0, where a stage needs a byte that is not given (Req 12).
use Rattle.std.specs.Prelude.{ℕ, Bool, true, false, Err, Ok, Result, ⊤}
use Rattle.answer.specs.declared.Refusal.{Refusal}
use Rattle.answer.specs.declared.Refusal.TheVariants.{Identification, Version, Header, Ceiling, Opened, Chain, Checksum, Body, Directory, OutsideGrid, Compressed, Input, Room, Malformed, NotOpen, Incomplete}

abbrev pub refusal_number : Refusal → ℕ
refusal_number Identification = 1
refusal_number Version = 2
refusal_number Header = 3
refusal_number Ceiling = 4
refusal_number Opened = 5
refusal_number (Chain at) = 6
refusal_number (Checksum at) = 7
refusal_number (Body at) = 8
refusal_number Directory = 9
refusal_number OutsideGrid = 10
refusal_number (Compressed at) = 11
refusal_number Input = 12
refusal_number Room = 13
refusal_number (Malformed at) = 14
refusal_number NotOpen = 15
refusal_number Incomplete = 16

abbrev pub refusal_place : Refusal → ℕ
refusal_place Identification = 0
refusal_place Version = 0
refusal_place Header = 0
refusal_place Ceiling = 0
refusal_place Opened = 0
refusal_place (Chain at) = at
refusal_place (Checksum at) = at
refusal_place (Body at) = at
refusal_place Directory = 16
refusal_place OutsideGrid = 0
refusal_place (Compressed at) = at
refusal_place Input = 0
refusal_place Room = 0
refusal_place (Malformed at) = at
refusal_place NotOpen = 0
refusal_place Incomplete = 0

-- a check's answer as a number, 0 where it accepts, and its place
abbrev pub verdict_number : Result ⊤ Refusal → ℕ
verdict_number (Ok accepted) = 0
verdict_number (Err r) = refusal_number r

abbrev pub verdict_place : Result ⊤ Refusal → ℕ
verdict_place (Ok accepted) = 0
verdict_place (Err r) = refusal_place r

-- the answer v where the test holds, and else the refusal r; stages in their order are such choices, one within the other
unfoldable pub gate : Bool → Refusal → Result ⊤ Refusal → Result ⊤ Refusal
gate true r v = v
gate false r v = Err r

-- what comes behind where a check accepts, and else its refusal handed on, as the kind of answer that is asked for
unfoldable pub unless_refused : {A : Type 0} → (Refusal → A) → Result ⊤ Refusal → A → A
unless_refused refused (Ok accepted) behind = behind
unless_refused refused (Err r) behind = refused r
