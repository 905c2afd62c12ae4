-- `calls::on::remove_on` meets its contract. Assumes nothing.
use native.Mathlib.Omega.{arith}
use Rattle.correct.specs.Calls.{line_of, change_on}
use Rattle.calls.proofs.AnswerLaws.{remove_index, on_refused, on_made}
use Rattle.calls.proofs.on.remove_on.Goals as goal

pub overflow_cast-tile : goal.overflow_cast-tile
unfolding change_on line_of
overflow_cast-tile c = omega (arith, remove_index _ _ _ _ c.judge_remove.ensures c.in-Ok.is)

pub returns-in-Err : goal.returns-in-Err
unfolding change_on line_of
returns-in-Err c = let all_of = on_refused _ _ _ c.judge_remove.ensures _ c.in-Err.is in record { answer = all_of.0; made = all_of.1.0; buffer = all_of.1.1 }

pub returns-in-Ok : goal.returns-in-Ok
unfolding change_on line_of
returns-in-Ok c = let all_of = on_made _ _ _ c.judge_remove.ensures _ c.in-Ok.is c.removing_cut-left.ensures.left c.removing_cut-left.ensures.holds in record { answer = all_of.0; made = all_of.1.0; buffer = all_of.1.1 }
