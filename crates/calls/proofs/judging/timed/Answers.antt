-- `calls::judging::timed` meets its contract. Assumes nothing.
use mathlib.Core.Path.{refl}
use native.Mathlib.Omega.{arith}
use Rattle.answer.proofs.VerdictLaws.{refusal_handed, answer_behind}
use Rattle.correct.specs.Answers.{answered}
use Rattle.calls.proofs.JudgeLaws.{time_zero, time_set}
use Rattle.calls.proofs.judging.timed.Goals as goal

pub returns-then-time-eq0 : goal.returns-then-time-eq0
unfolding answered
returns-then-time-eq0 c = time_zero _ _ _ _ (omega arith)

pub returns-in-Err : goal.returns-in-Err
unfolding answered
returns-in-Err c = time_set _ _ _ _ (λ z. omega arith) (refusal_handed _ _ _ c.room_left.ensures _ _ c.in-Err.is)

pub returns-in-Ok : goal.returns-in-Ok
unfolding answered
returns-in-Ok c = time_set _ _ _ _ (λ z. omega arith) (answer_behind _ _ _ c.room_left.ensures _ _ c.in-Ok.is (λ z. refl))
