-- `replay::replay` meets its contract. Assumes nothing.
use mathlib.Core.Path.{sym, ◌∙◌}
use Rattle.replay.proofs.LogLaws.{tile_told_lem, answer_refused, answer_done}
use Rattle.replay.proofs.replay.Goals as goal

pub do_entries-requires : goal.do_entries-requires
do_entries-requires c = let e = sym c.judge_replay.ensures ∙ c.in-Ok.is in
    (e, tile_told_lem _ _ _ e c.part_of.ensures.holds c.tile_bytes-long.ensures)

pub returns-in-Err : goal.returns-in-Err
returns-in-Err c = let all_of = answer_refused _ _ _ c.judge_replay.ensures _ c.in-Err.is in record { answer = all_of.0; buffer = all_of.1 }

pub returns-in-Ok : goal.returns-in-Ok
returns-in-Ok c = let all_of = answer_done _ _ _ c.judge_replay.ensures c.in-Ok.is c.do_entries.ensures.answer c.do_entries.ensures.buffer in record { answer = all_of.0; buffer = all_of.1 }
