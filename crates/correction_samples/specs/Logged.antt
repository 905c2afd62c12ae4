-- Req 14, samples: a log replayed on a page, and what is refused before its first entry.
use Rattle.std.specs.Prelude.{ℕ, ◌≡◌, List, [], ◌∷◌, ◌++◌}
use Rattle.answer.specs.declared.Refusal.TheVariants.{Input, Room, NotOpen}
use Rattle.replay.specs.declared.Replayed.TheVariants.{Done, Stopped, Refused}
use Rattle.replay.specs.Replay.{replay_answer, replay_out}
use Rattle.small_pages.specs.Pages.{none, plain_front, no_space, at408, directory, others, others_tile, full_file, full_page}

-- remove tile 0, store tile 1, store the tile with a number: 28 bytes behind the length
abbrev pub log_to : ℕ → List ℕ
log_to i = (0 ∷ 0 ∷ 0 ∷ 28 ∷ 1 ∷ []) ++ (2 ∷ 0 ∷ 0 ∷ 0 ∷ 0 ∷ []) ++ (1 ∷ 0 ∷ 0 ∷ 0 ∷ 1 ∷ []) ++ others ++ (1 ∷ 0 ∷ 0 ∷ 0 ∷ i ∷ []) ++ others

pub record LoggedSo : Type 0 where
  -- 12 of the length, 15, 12 of the log, each where the ones behind it are due too: the log's last index is past the tiles
  pub refused :
      replay_answer full_file 457 (log_to 4) ∷ replay_answer full_file 456 (log_to 4) ∷ replay_answer full_page 456 (log_to 4) ∷ []
      ≡ Refused Input ∷ Refused NotOpen ∷ Refused Input ∷ []
  pub untouched : replay_out full_page 456 (log_to 4) ≡ full_page
  -- tile 1 takes the place of tile 0; tile 2 goes to the end, for which there is no room: 13 behind two entries, which stay
  pub stopped : replay_answer full_page 456 (log_to 2) ≡ Stopped Room 456 2
  pub stopped_page : replay_out full_page 456 (log_to 2) ≡ plain_front 5 9 no_space at408 ++ others_tile 1 ++ directory 0 47 0 0
  -- and with room for it
  pub done : replay_answer (full_page ++ none 32) 456 (log_to 2) ≡ Done 488 3
  pub done_page : replay_out (full_page ++ none 32) 456 (log_to 2) ≡ plain_front 5 9 no_space at408 ++ others_tile 1 ++ directory 0 47 58 0 ++ others_tile 2
