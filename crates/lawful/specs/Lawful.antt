-- Req 03 and Req 05: what holds of a call, on the page of n bytes in a buffer b.
use Rattle.std.specs.Prelude.{ℕ, ◌≤◌, ◌≡◌, ◌⊎◌, true, false, List, length, Err, Ok}
use Rattle.wire.specs.Bytes.{Bytes}
use Rattle.answer.specs.declared.Refusal.{Refusal}
use Rattle.answer.specs.Refusals.{refusal_place}
use Rattle.page_check.specs.Stages.{check}
use Rattle.alone.specs.Alone.{SameHeader}
use Rattle.writable.specs.Writable.{open_for_writing}
use Rattle.correct.specs.Front.{page_in}
use Rattle.correct.specs.Calls.{Call, Given, Role, kind_of, moves, map_then, line_of, State, page_of, answer_of, after}
use Rattle.page_laws.specs.Tiles.{tiles_of, Follows, InPlace}
use Rattle.effects.specs.Effects.{Wants, Makes}
use Rattle.squeezed.specs.Squeezed.{stands_before}
use Rattle.lawful.specs.Marks.{Marks}

-- "the file is then accepted": a closing leaves an accepted file, any other call a page open for writing
abbrev pub Leaves : Role → List ℕ → Type 0
Leaves Role.Opens s = open_for_writing s ≡ true
Leaves Role.Works s = open_for_writing s ≡ true
Leaves Role.Closes s = check s ≡ Ok tt

-- a call, on a page that it is made on, that is not refused
pub record Done (call : Call) (b : List ℕ) (s : List ℕ) : Type 0 where
  -- its byte stores make its page, for which there is room
  pub makes : Makes b (line_of call b s).writes (line_of call b s).page (line_of call b s).long
  pub room : (line_of call b s).long ≤ length b
  pub bytes : Bytes (line_of call b s).page
  pub left : Leaves (kind_of call).role (line_of call b s).page
  -- what the page keeps, and its tiles are those of the map
  pub follows : Follows s (line_of call b s).page (kind_of call).names (map_then s call (tiles_of s))
  -- the records of tiles that it does not name keep their order
  pub order :
      (i j : ℕ) → (kind_of call).names i ≡ false → (kind_of call).names j ≡ false →
      stands_before (line_of call b s).page i j ≡ stands_before s i j
  -- where no record is moved, places are kept too, and the page gets no shorter
  pub places : moves call ≡ false → InPlace s (line_of call b s).page (kind_of call).names
  pub grows : moves call ≡ false → length s ≤ (line_of call b s).long
  -- what becomes of the opened time
  pub marks : Marks (kind_of call).role s (line_of call b s)

pub record Lawful (call : Call) : Type 0 where
  -- a refusal behind the check has place 0
  pub refused : (b s : List ℕ) (r : Refusal) → (line_of call b s).verdict ≡ Err r → refusal_place r ≡ 0
  -- what a tile then holds is the same in pages with the same sizes
  pub sizes : {s t : List ℕ} → SameHeader s t → (kind_of call).holds t ≡ (kind_of call).holds s
  pub done :
      Given call → (b : List ℕ) (n : ℕ) → Bytes b → n ≤ length b → Wants (kind_of call).role (page_in b n) → (line_of call b (page_in b n)).verdict ≡ Ok tt →
      Done call b (page_in b n)

abbrev pub EachLawful : Type 0
EachLawful = (call : Call) → Lawful call

-- "Every refusal changes nothing": neither the buffer nor the page's length
abbrev pub RefusedLeaves : Type 0
RefusedLeaves = (call : Call) (st : State) (r : Refusal) → answer_of call st ≡ Err r → after call st ≡ st

-- a refusal has place 0, but for the check's, which an opening hands on
abbrev pub RefusedPlace : Type 0
RefusedPlace = (call : Call) (st : State) (r : Refusal) → answer_of call st ≡ Err r → (refusal_place r ≡ 0) ⊎ (check (page_of st) ≡ Err r)
