-- Req 14: what a replay is refused by before its first entry, in order, and that any other goes through its entries. b is the buffer, n
-- the page's length in it.
use Rattle.std.specs.Prelude.{ℕ, ◌≤◌, ◌<◌, ◌≡◌, List, true, false, length}
use Rattle.answer.specs.declared.Refusal.TheVariants.{Input, NotOpen}
use Rattle.writable.specs.Writable.{open_for_writing}
use Rattle.correct.specs.Front.{page_in}
use Rattle.replay.specs.declared.Replayed.TheVariants.{Refused}
use Rattle.replay.specs.Entries.{right_for}
use Rattle.replay.specs.Replay.{outcome_of, told, replay_answer, replay_out}

pub record ReplayExactly (b : List ℕ) (n : ℕ) (log : List ℕ) : Type 0 where
  pub past : length b < n → replay_answer b n log ≡ Refused Input
  pub closed : n ≤ length b → open_for_writing (page_in b n) ≡ false → replay_answer b n log ≡ Refused NotOpen
  pub wrong : n ≤ length b → open_for_writing (page_in b n) ≡ true → right_for (page_in b n) log ≡ false → replay_answer b n log ≡ Refused Input
  -- by hand, to the end or to the first refusal (`DoneByHand`, `StoppedByHand`)
  pub goes :
      n ≤ length b → open_for_writing (page_in b n) ≡ true → right_for (page_in b n) log ≡ true →
      (replay_answer b n log ≡ told (outcome_of b n log)) × (replay_out b n log ≡ (outcome_of b n log).state.buffer)

abbrev pub ReplaysExactly : Type 0
ReplaysExactly = (b : List ℕ) (n : ℕ) (log : List ℕ) → ReplayExactly b n log
