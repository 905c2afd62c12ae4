-- `calls::on::open_on` meets its contract. Assumes nothing.
use Rattle.correct.specs.Calls.{Call, line_of, change_on}
use Rattle.calls.proofs.AnswerLaws.{on_workable, on_refused, on_made}
use Rattle.calls.proofs.on.open_on.Goals as goal

pub opening_cut-left-requires : goal.opening_cut-left-requires
unfolding change_on line_of
opening_cut-left-requires c = on_workable (Call.Opening _) _ _ _ c.judge_open.ensures c.in-Ok.is

pub returns-in-Err : goal.returns-in-Err
unfolding change_on line_of
returns-in-Err c = let all_of = on_refused _ _ _ c.judge_open.ensures _ c.in-Err.is in record { answer = all_of.0; made = all_of.1.0; buffer = all_of.1.1 }

pub returns-in-Ok : goal.returns-in-Ok
unfolding change_on line_of
returns-in-Ok c = let all_of = on_made _ _ _ c.judge_open.ensures _ c.in-Ok.is c.opening_cut-left.ensures.left c.opening_cut-left.ensures.holds in record { answer = all_of.0; made = all_of.1.0; buffer = all_of.1.1 }
