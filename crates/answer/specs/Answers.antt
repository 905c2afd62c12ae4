-- The kind, value, place and length of each answer. The kind of a refusal is its number; stored or present is 32,
-- fill or absent 33, unpacked 34 (Req 01). So a name found is 32, one that no element has 33.
use Rattle.std.specs.Prelude.{ℕ, List, ◌++◌, drop, Err, None, Ok, Option, Result, Some, ⊤}
use Rattle.answer.specs.declared.Extent.{Extent}
use Rattle.answer.specs.declared.Refusal.{Refusal}
use Rattle.answer.specs.declared.Cell.{Cell}
use Rattle.answer.specs.declared.Cell.TheVariants as cell
use Rattle.answer.specs.declared.Held.{Held}
use Rattle.answer.specs.declared.Held.TheVariants as held
use Rattle.answer.specs.Refusals.{refusal_number, refusal_place}
use Rattle.answer.specs.Values.{value_type, value_bits}

abbrev pub cell_kind : Result Cell Refusal → ℕ
cell_kind (Ok (cell.Stored v at w)) = 32
cell_kind (Ok (cell.Fill v w)) = 33
cell_kind (Ok (cell.Unpacked v at w)) = 34
cell_kind (Err r) = refusal_number r

-- the value's type code and bits, 0 and 0 of a refusal
abbrev pub cell_type : Result Cell Refusal → ℕ
cell_type (Ok (cell.Stored v at w)) = value_type v
cell_type (Ok (cell.Fill v w)) = value_type v
cell_type (Ok (cell.Unpacked v at w)) = value_type v
cell_type (Err r) = 0

abbrev pub cell_bits : Result Cell Refusal → ℕ
cell_bits (Ok (cell.Stored v at w)) = value_bits v
cell_bits (Ok (cell.Fill v w)) = value_bits v
cell_bits (Ok (cell.Unpacked v at w)) = value_bits v
cell_bits (Err r) = 0

abbrev pub cell_place : Result Cell Refusal → ℕ
cell_place (Ok (cell.Stored v at w)) = at
cell_place (Ok (cell.Fill v w)) = 0
cell_place (Ok (cell.Unpacked v at w)) = at
cell_place (Err r) = refusal_place r

-- its refusal as a check's; accepted where it is none
abbrev pub cell_verdict : Result Cell Refusal → Result ⊤ Refusal
cell_verdict (Ok (cell.Stored v at w)) = Ok tt
cell_verdict (Ok (cell.Fill v w)) = Ok tt
cell_verdict (Ok (cell.Unpacked v at w)) = Ok tt
cell_verdict (Err r) = Err r

-- Req 10: the index of its tile and its number inside the tile; 0 and 0 of a refusal
abbrev pub answer_tile : Result Cell Refusal → ℕ
answer_tile (Ok (cell.Stored v at w)) = w.tile
answer_tile (Ok (cell.Fill v w)) = w.tile
answer_tile (Ok (cell.Unpacked v at w)) = w.tile
answer_tile (Err r) = 0

abbrev pub answer_inside : Result Cell Refusal → ℕ
answer_inside (Ok (cell.Stored v at w)) = w.inside
answer_inside (Ok (cell.Fill v w)) = w.inside
answer_inside (Ok (cell.Unpacked v at w)) = w.inside
answer_inside (Err r) = 0

abbrev pub content_kind : Result (Option Extent) Refusal → ℕ
content_kind (Ok (Some x)) = 32
content_kind (Ok None) = 33
content_kind (Err r) = refusal_number r

-- where the content starts, or the refusal's place
abbrev pub content_place : Result (Option Extent) Refusal → ℕ
content_place (Ok (Some x)) = x.start
content_place (Ok None) = 0
content_place (Err r) = refusal_place r

abbrev pub content_length : Result (Option Extent) Refusal → ℕ
content_length (Ok (Some x)) = x.length
content_length (Ok None) = 0
content_length (Err r) = 0

abbrev pub lookup_kind : Result (Option ℕ) Refusal → ℕ
lookup_kind (Ok (Some e)) = 32
lookup_kind (Ok None) = 33
lookup_kind (Err r) = refusal_number r

-- the element's number, or the refusal's place
abbrev pub lookup_number : Result (Option ℕ) Refusal → ℕ
lookup_number (Ok (Some e)) = e
lookup_number (Ok None) = 0
lookup_number (Err r) = refusal_place r

-- of all cells of an element in a tile: where their content starts, or the refusal's place. Cells that are looked up one by one are not
-- judged, so as an answer of all they have no kind: 0, place 0. No function of the C interface gives it
abbrev pub held_kind : Result Held Refusal → ℕ
held_kind (Ok (held.Stored at)) = 32
held_kind (Ok (held.Unpacked at)) = 34
held_kind (Ok held.Absent) = 33
held_kind (Ok held.Alone) = 0
held_kind (Err r) = refusal_number r

abbrev pub held_place : Result Held Refusal → ℕ
held_place (Ok (held.Stored at)) = at
held_place (Ok (held.Unpacked at)) = at
held_place (Ok held.Absent) = 0
held_place (Ok held.Alone) = 0
held_place (Err r) = refusal_place r

-- their refusal as a check's; accepted where it is none, or where they are looked up one by one
abbrev pub held_verdict : Result Held Refusal → Result ⊤ Refusal
held_verdict (Ok (held.Stored at)) = Ok tt
held_verdict (Ok (held.Unpacked at)) = Ok tt
held_verdict (Ok held.Absent) = Ok tt
held_verdict (Ok held.Alone) = Ok tt
held_verdict (Err r) = Err r

-- what a buffer holds behind such a call: done, the page, and bytes behind it stay; refused, it is as it was
abbrev pub written : Result ℕ Refusal → List ℕ → List ℕ → List ℕ
written (Ok n) page out = page ++ drop n out
written (Err r) page out = out

-- 0 where a page was laid down or corrected, else the refusal's number
abbrev pub laid_number : Result ℕ Refusal → ℕ
laid_number (Ok n) = 0
laid_number (Err r) = refusal_number r
