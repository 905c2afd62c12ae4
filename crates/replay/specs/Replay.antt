-- Req 14: a replay. b is the buffer, n the page's length.
use Rattle.std.specs.Prelude.{ℕ, ◌+◌, List, [], ◌∷◌, Err, None, Ok, Result, ⊤, Option, Some}
use Rattle.answer.specs.declared.Refusal.{Refusal}
use Rattle.answer.specs.declared.Refusal.TheVariants.{Input}
use Rattle.answer.specs.Refusals.{refusal_number, refusal_place, gate, unless_refused}
use Rattle.correct.specs.Front.{page_in}
use Rattle.correct.specs.Answers.{on_open_page}
use Rattle.correct.specs.Calls.{Call, State, answer_of, after}
use Rattle.replay.specs.Entries.{right_for, log_calls}
use Rattle.replay.specs.declared.Replayed.{Replayed}
use Rattle.replay.specs.declared.Replayed.TheVariants.{Done, Stopped, Refused}

-- what a replay comes to: the buffer and the page's length, how many entries were done, and what stopped it
pub record Outcome : Type 0 where
  pub state : State
  pub done : ℕ
  pub stop : Option Refusal

-- "Replay on an open page equals making the calls by hand. A refusal by 13 or 4 stops it": each call of Req 03 on what the last left, up to
-- the first that is refused (Req 14, readings 5 to 7). `done` counts those before. `answer_of` and `after` are what the contracts of
-- calls::store_tile and calls::remove_tile say, so by hand is by what a user calls
abbrev pub go_on : Result ℕ Refusal → Outcome → State → ℕ → Outcome
go_on (Ok m) on st done = on
go_on (Err r) on st done = record { state = st; done = done; stop = Some r }

unfoldable pub replayed : List Call → State → ℕ → Outcome
replayed [] st done = record { state = st; done = done; stop = None }
replayed (call ∷ calls) st done = go_on (answer_of call st) (replayed calls (after call st) (done + 1)) st done

-- "A malformed log, or an index past the tiles anywhere in it, is 12 before the page is touched": behind the page's length, 12, and a page
-- that is not open, 15 (Req 14, readings 3 and 4)
unfoldable pub replay_verdict : List ℕ → ℕ → List ℕ → Result ⊤ Refusal
replay_verdict b n log = on_open_page b n (gate (right_for (page_in b n) log) Input (Ok tt))

unfoldable pub outcome_of : List ℕ → ℕ → List ℕ → Outcome
outcome_of b n log = replayed (log_calls (page_in b n) log) (record { buffer = b; long = n }) 0

-- "reports the number of entries done and the length"
abbrev pub told_of : Option Refusal → State → ℕ → Replayed
told_of None st done = Done st.long done
told_of (Some r) st done = Stopped r st.long done

unfoldable pub told : Outcome → Replayed
told o = told_of o.stop o.state o.done

unfoldable pub replay_answer : List ℕ → ℕ → List ℕ → Replayed
replay_answer b n log = unless_refused Refused (replay_verdict b n log) (told (outcome_of b n log))

-- "and, against Req 03, leaves the page as those left it"; a refusal before the first entry changes nothing
unfoldable pub replay_out : List ℕ → ℕ → List ℕ → List ℕ
replay_out b n log = unless_refused (λ r. b) (replay_verdict b n log) (outcome_of b n log).state.buffer

-- the answer as numbers: 0, or that of the refusal; the page's length, or the place of a refusal before the first entry; the entries done
abbrev pub replayed_number : Replayed → ℕ
replayed_number (Done m k) = 0
replayed_number (Stopped r m k) = refusal_number r
replayed_number (Refused r) = refusal_number r

abbrev pub replayed_length : Replayed → ℕ
replayed_length (Done m k) = m
replayed_length (Stopped r m k) = m
replayed_length (Refused r) = refusal_place r

abbrev pub replayed_entries : Replayed → ℕ
replayed_entries (Done m k) = k
replayed_entries (Stopped r m k) = k
replayed_entries (Refused r) = 0
