-- `calls::stops::open_page_stopped` meets its contract. Assumes nothing.
use Rattle.correct.specs.Calls.{Call, admitted}
use Rattle.calls.proofs.AnswerLaws.{check_refused, check_passed}
use Rattle.calls.proofs.stops.open_page_stopped.Goals as goal

pub returns-in-Err : goal.returns-in-Err
unfolding admitted
returns-in-Err c = let all_of = check_refused (Call.Opening _) _ _ c.on_accepted_page.ensures _ _ c.in-Err.is in record { answer = all_of.0; made = all_of.1.0; buffer = all_of.1.1 }

pub returns-in-Ok : goal.returns-in-Ok
unfolding admitted
returns-in-Ok c = let all_of = check_passed (Call.Opening _) _ _ c.on_accepted_page.ensures _ c.in-Ok.is (c.open_on.ensures.answer, (c.open_on.ensures.made, c.open_on.ensures.buffer)) in record { answer = all_of.0; made = all_of.1.0; buffer = all_of.1.1 }
