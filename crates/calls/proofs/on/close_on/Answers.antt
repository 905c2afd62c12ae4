-- `calls::on::close_on` meets its contract. Assumes nothing.
use Rattle.correct.specs.Calls.{Call, line_of, change_on}
use Rattle.calls.proofs.AnswerLaws.{on_workable, on_refused, on_made}
use Rattle.calls.proofs.on.close_on.Goals as goal

pub closing_cut-left-requires : goal.closing_cut-left-requires
unfolding change_on line_of
closing_cut-left-requires c = on_workable (Call.Closing _) _ _ _ c.judge_close.ensures c.in-Ok.is

pub returns-in-Err : goal.returns-in-Err
unfolding change_on line_of
returns-in-Err c = let all_of = on_refused _ _ _ c.judge_close.ensures _ c.in-Err.is in record { answer = all_of.0; made = all_of.1.0; buffer = all_of.1.1 }

pub returns-in-Ok : goal.returns-in-Ok
unfolding change_on line_of
returns-in-Ok c = let all_of = on_made _ _ _ c.judge_close.ensures _ c.in-Ok.is c.closing_cut-left.ensures.left c.closing_cut-left.ensures.holds in record { answer = all_of.0; made = all_of.1.0; buffer = all_of.1.1 }
