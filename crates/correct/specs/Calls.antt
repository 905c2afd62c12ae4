-- Req 03, Req 05 and Req 11: the calls. A call is one value; what it does to a page in a buffer is one line of a table, and what it answers, what
-- the buffer holds afterwards and which byte stores it makes are said of every line at once. b is the buffer, n the page's length.
use Rattle.std.specs.Prelude.{ℕ, ◌<◌, min, List, [], ◌∷◌, Bool, true, false, length, eqb, Err, Ok, Result, ⊤}
use Rattle.answer.specs.declared.Refusal.{Refusal}
use Rattle.wire.specs.Pick.{pick}
use Rattle.wire.specs.Bytes.{Bytes}
use Rattle.answer.specs.Answers.{written}
use Rattle.stores.specs.Stores.{Write, store_count, stopped}
use Rattle.correct.specs.Front.{page_in}
use Rattle.correct.specs.Opening.{opened_page, opened_length}
use Rattle.correct.specs.Storing.{plain_contents, stored_page, stored_length}
use Rattle.correct.specs.Removing.{removed_page}
use Rattle.correct.specs.Closing.{closed_page, closed_length}
use Rattle.correct.specs.Plan.{planned_end}
use Rattle.correct.specs.Squeezing.{squeezed_page}
use Rattle.correct.specs.Answers.{on_open_page, on_accepted_page, workable_then, tile_then, cells_then, time_then, plan_then, room_left, answered}
use Rattle.correct.specs.Writes.{open_writes, store_writes, remove_writes, close_writes, squeeze_writes}

-- a call, with what the caller gives: a time, a tile's index, the cell bytes of a tile, a plan of new starts
pub data Call : Type 0 where
  Opening : ℕ → Call
  Storing : ℕ → List ℕ → Call
  Removing : ℕ → Call
  Closing : ℕ → Call
  Squeezing : List ℕ → Call

-- a time has 64 bits, and cell bytes are bytes
abbrev pub Given : Call → Type 0
Given (Opening t) = t < 18446744073709551616
Given (Storing i c) = Bytes c
Given (Removing i) = Unit {0}
Given (Closing t) = t < 18446744073709551616
Given (Squeezing ps) = Unit {0}

-- a call opens a page, works on an open one, or closes it
pub data Role : Type 0 where
  Opens : Role
  Works : Role
  Closes : Role

-- its role, the tiles that it names, and what a tile that it names then holds, in a page s with the tile's sizes: each element's content,
-- none where the tile is not stored
pub record Kind : Type 0 where
  pub role : Role
  pub names : ℕ → Bool
  pub holds : List ℕ → List (List ℕ)

abbrev pub kind_of : Call → Kind
kind_of (Opening t) = record { role = Opens; names = λ j. false; holds = λ s. [] }
kind_of (Storing i c) = record { role = Works; names = λ j. eqb j i; holds = λ s. plain_contents s c }
kind_of (Removing i) = record { role = Works; names = λ j. eqb j i; holds = λ s. [] }
kind_of (Closing t) = record { role = Closes; names = λ j. false; holds = λ s. [] }
kind_of (Squeezing ps) = record { role = Works; names = λ j. false; holds = λ s. [] }

-- whether it moves records that it does not name: squeezing alone does (Req 11, reading 11)
abbrev pub moves : Call → Bool
moves (Opening t) = false
moves (Storing i c) = false
moves (Removing i) = false
moves (Closing t) = false
moves (Squeezing ps) = true

-- the map then: what each tile holds; and the tiles that are named
abbrev pub map_then : List ℕ → Call → (ℕ → List (List ℕ)) → ℕ → List (List ℕ)
map_then s call tiles j = pick ((kind_of call).names j) ((kind_of call).holds s) (tiles j)

abbrev pub named_then : Call → (ℕ → Bool) → ℕ → Bool
named_then call named j = pick ((kind_of call).names j) true (named j)

-- what a call is to do to a page in a buffer: what it is judged by; where it is not refused, the page that it makes, how long that is, and
-- the byte stores that make it, in their order
pub record Change : Type 0 where
  pub verdict : Result ⊤ Refusal
  pub page : List ℕ
  pub long : ℕ
  pub writes : List Write

-- the table: of a page s, in a buffer b, that is as the call wants it
unfoldable pub line_of : Call → List ℕ → List ℕ → Change
line_of (Opening t) b s =
    record { verdict = time_then t (room_left b (opened_length s)); page = opened_page s t; long = opened_length s; writes = open_writes b s t }
line_of (Storing i c) b s =
    record {
      verdict = tile_then s i (cells_then s c (room_left b (stored_length s i)));
      page = stored_page s i c;
      long = stored_length s i;
      writes = store_writes b s i c;
    }
line_of (Removing i) b s = record { verdict = tile_then s i (Ok tt); page = removed_page s i; long = length s; writes = remove_writes b s i }
line_of (Closing t) b s =
    record { verdict = time_then t (room_left b (closed_length s)); page = closed_page s t; long = closed_length s; writes = close_writes b s t }
line_of (Squeezing ps) b s =
    record { verdict = plan_then s ps (Ok tt); page = squeezed_page s ps; long = planned_end s ps; writes = squeeze_writes b s ps }

-- which page a call is made on, by its role
unfoldable pub admitted : Role → List ℕ → ℕ → Result ⊤ Refusal → Result ⊤ Refusal
admitted Opens b n behind = on_accepted_page b n behind
admitted Works b n behind = on_open_page b n behind
admitted Closes b n behind = on_open_page b n behind

abbrev pub judged_by : Result ⊤ Refusal → Change → Change
judged_by v c = record { verdict = v; page = c.page; long = c.long; writes = c.writes }

-- what a call does to the first n bytes of b, which are taken to be such a page; and what it does where that is asked first
unfoldable pub change_on : Call → List ℕ → ℕ → Change
change_on call b n = judged_by (workable_then (page_in b n) (line_of call b (page_in b n)).verdict) (line_of call b (page_in b n))

unfoldable pub change_of : Call → List ℕ → ℕ → Change
change_of call b n = judged_by (admitted (kind_of call).role b n (change_on call b n).verdict) (change_on call b n)

-- Req 03, reading 1: the answer is the new length, or the refusal
unfoldable pub answer_by : Change → Result ℕ Refusal
answer_by c = answered c.verdict c.long

-- "Every refusal changes nothing; bytes behind the page's end stay"
unfoldable pub out_by : Change → List ℕ → List ℕ
out_by c b = written (answer_by c) c.page b

-- Req 05, reading 8: nothing is stored before all is judged, so a refused call makes no store
abbrev pub unless_refused_writes : Result ℕ Refusal → List Write → List Write
unless_refused_writes (Ok m) ws = ws
unless_refused_writes (Err r) ws = []

unfoldable pub stores_by : Change → List Write
stores_by c = unless_refused_writes (answer_by c) c.writes

-- Req 05, reading 7: "a form of each call that stops after a given number of byte stores" answers as the call does; this is what the buffer
-- holds when it stops after k, and how many stores it has made
unfoldable pub stopped_by : ℕ → Change → List ℕ → List ℕ
stopped_by k c b = stopped k (stores_by c) b

unfoldable pub made_by : ℕ → Change → ℕ
made_by k c = min k (store_count (stores_by c))

-- a buffer, and how long the page in it is
pub record State : Type 0 where
  pub buffer : List ℕ
  pub long : ℕ

unfoldable pub page_of : State → List ℕ
page_of st = page_in st.buffer st.long

abbrev pub change_in : Call → State → Change
change_in call st = change_of call st.buffer st.long

abbrev pub answer_of : Call → State → Result ℕ Refusal
answer_of call st = answer_by (change_in call st)

abbrev pub out_of : Call → State → List ℕ
out_of call st = out_by (change_in call st) st.buffer

abbrev pub stores_of : Call → State → List Write
stores_of call st = stores_by (change_in call st)

-- the page's length then: the answer, or as it was where the call is refused
abbrev pub long_then : Result ℕ Refusal → ℕ → ℕ
long_then (Ok m) n = m
long_then (Err r) n = n

unfoldable pub after : Call → State → State
after call st = record { buffer = out_of call st; long = long_then (answer_of call st) st.long }

-- each call on what the last left
unfoldable pub after_all : List Call → State → State
after_all [] st = st
after_all (call ∷ calls) st = after_all calls (after call st)

abbrev pub AllGiven : List Call → Type 0
AllGiven [] = Unit {0}
AllGiven (call ∷ calls) = Given call × AllGiven calls
