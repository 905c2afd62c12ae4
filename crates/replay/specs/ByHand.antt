-- Req 14: what a replay answers and leaves, by the calls by hand.
use Rattle.std.specs.Prelude.{ℕ, ◌≡◌, ◌⊎◌, true, List, [], ◌∷◌, ◌++◌, length, Err, Ok, Some, None}
use Rattle.wire.specs.Bytes.{Bytes}
use Rattle.answer.specs.declared.Refusal.{Refusal}
use Rattle.answer.specs.declared.Refusal.TheVariants.{Ceiling, Input, Room, NotOpen}
use Rattle.writable.specs.Writable.{open_for_writing}
use Rattle.correct.specs.Front.{page_in}
use Rattle.correct.specs.Calls.{Call, AllGiven, State, page_of, answer_of, after, after_all}
use Rattle.replay.specs.Entries.{log_calls}
use Rattle.replay.specs.Replay.{Outcome, replayed, replay_answer, replay_out}
use Rattle.replay.specs.declared.Replayed.TheVariants.{Done, Stopped, Refused}

-- a call that is not refused, and calls none of which is, each on what the last left
pub record Answered (call : Call) (st : State) : Type 0 where
  pub long : ℕ
  pub answer : answer_of call st ≡ Ok long

abbrev pub AllAnswered : List Call → State → Type 0
AllAnswered [] st = Unit {0}
AllAnswered (call ∷ calls) st = Answered call st × AllAnswered calls (after call st)

-- all were done
pub record WentThrough (calls : List Call) (st : State) (o : Outcome) : Type 0 where
  pub each : AllAnswered calls st
  pub state : o.state ≡ after_all calls st
  pub done : o.done ≡ length calls
  pub stop : o.stop ≡ None

-- one was refused: those before it were done, and what is left is what these left
pub record StoppedAt (calls : List Call) (st : State) (o : Outcome) : Type 0 where
  pub first : List Call
  pub call : Call
  pub rest : List Call
  pub whole : calls ≡ first ++ (call ∷ rest)
  pub each : AllAnswered first st
  pub by : Refusal
  pub refused : answer_of call (after_all first st) ≡ Err by
  pub state : o.state ≡ after_all first st
  pub done : o.done ≡ length first
  pub stop : o.stop ≡ Some by

-- "Replay on an open page equals making the calls by hand", of any calls
abbrev pub ByHand : Type 0
ByHand = (calls : List Call) (st : State) → WentThrough calls st (replayed calls st 0) ⊎ StoppedAt calls st (replayed calls st 0)

-- stores and removals alone, as a log has
abbrev pub Entry : Call → Type 0
Entry (Call.Opening t) = ⊥
Entry (Call.Storing i c) = Unit {0}
Entry (Call.Removing i) = Unit {0}
Entry (Call.Closing t) = ⊥
Entry (Call.Squeezing ps) = ⊥

abbrev pub Entries : List Call → Type 0
Entries [] = Unit {0}
Entries (call ∷ calls) = Entry call × Entries calls

-- whatever the answer, the page is open for writing again
abbrev pub StaysOpen : Type 0
StaysOpen =
    (b : List ℕ) (n : ℕ) → Bytes b → open_for_writing (page_in b n) ≡ true → (calls : List Call) → AllGiven calls → Entries calls →
    open_for_writing (page_of (replayed calls (record { buffer = b; long = n }) 0).state) ≡ true

-- the same by a log, and by what is answered. To the end: the length, and the number of all entries
pub record DoneBy (b : List ℕ) (n : ℕ) (log : List ℕ) (m k : ℕ) : Type 0 where
  pub each : AllAnswered (log_calls (page_in b n) log) (record { buffer = b; long = n })
  pub left : record { buffer = replay_out b n log; long = m } ≡ after_all (log_calls (page_in b n) log) (record { buffer = b; long = n })
  pub entries : k ≡ length (log_calls (page_in b n) log)
  pub open_page_lem : open_for_writing (page_in (replay_out b n log) m) ≡ true

abbrev pub DoneByHand : Type 0
DoneByHand = (b : List ℕ) (n : ℕ) (log : List ℕ) → Bytes b → Bytes log → (m k : ℕ) → replay_answer b n log ≡ Done m k → DoneBy b n log m k

-- "A refusal by 13 or 4 stops it, reports the number of entries done and the length, and, against Req 03, leaves the page as those left
-- it": no other refusal stops it
pub record StoppedBy (b : List ℕ) (n : ℕ) (log : List ℕ) (r : Refusal) (m k : ℕ) : Type 0 where
  pub which : (r ≡ Room) ⊎ (r ≡ Ceiling)
  pub first : List Call
  pub call : Call
  pub rest : List Call
  pub whole : log_calls (page_in b n) log ≡ first ++ (call ∷ rest)
  pub each : AllAnswered first (record { buffer = b; long = n })
  pub refused : answer_of call (after_all first (record { buffer = b; long = n })) ≡ Err r
  pub left : record { buffer = replay_out b n log; long = m } ≡ after_all first (record { buffer = b; long = n })
  pub entries : k ≡ length first
  pub open_page_lem : open_for_writing (page_in (replay_out b n log) m) ≡ true

abbrev pub StoppedByHand : Type 0
StoppedByHand =
    (b : List ℕ) (n : ℕ) (log : List ℕ) → Bytes b → Bytes log → (r : Refusal) (m k : ℕ) → replay_answer b n log ≡ Stopped r m k → StoppedBy b n log r m k

-- before the first entry it is refused by 12 and 15 alone, and nothing has changed
abbrev pub RefusedFirst : Type 0
RefusedFirst = (b : List ℕ) (n : ℕ) (log : List ℕ) (r : Refusal) → replay_answer b n log ≡ Refused r → ((r ≡ Input) ⊎ (r ≡ NotOpen)) × (replay_out b n log ≡ b)
