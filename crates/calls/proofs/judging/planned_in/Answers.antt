-- `calls::judging::planned_in` meets its contract. Assumes nothing.
use mathlib.Core.Path.{refl}
use Rattle.answer.proofs.VerdictLaws.{refusal_handed, answer_behind}
use Rattle.calls.proofs.judging.planned_in.Goals as goal

pub returns-in-Err : goal.returns-in-Err
returns-in-Err c = refusal_handed _ _ _ c.room_left.ensures _ _ c.in-Err.is

pub returns-in-Ok : goal.returns-in-Ok
returns-in-Ok c = answer_behind _ _ _ c.room_left.ensures _ _ c.in-Ok.is (λ z. refl)
