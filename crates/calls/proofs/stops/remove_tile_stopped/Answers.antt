-- `calls::stops::remove_tile_stopped` meets its contract. Assumes nothing.
use Rattle.correct.specs.Calls.{Call, admitted}
use Rattle.calls.proofs.AnswerLaws.{check_refused, check_passed}
use Rattle.calls.proofs.stops.remove_tile_stopped.Goals as goal

pub returns-in-Err : goal.returns-in-Err
unfolding admitted
returns-in-Err c = let all_of = check_refused (Call.Removing _) _ _ c.on_open_page.ensures _ _ c.in-Err.is in record { answer = all_of.0; made = all_of.1.0; buffer = all_of.1.1 }

pub returns-in-Ok : goal.returns-in-Ok
unfolding admitted
returns-in-Ok c = let all_of = check_passed (Call.Removing _) _ _ c.on_open_page.ensures _ c.in-Ok.is (c.remove_on.ensures.answer, (c.remove_on.ensures.made, c.remove_on.ensures.buffer)) in record { answer = all_of.0; made = all_of.1.0; buffer = all_of.1.1 }
