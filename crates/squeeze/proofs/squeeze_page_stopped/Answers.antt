-- `squeeze::squeeze_page_stopped` meets its contract. Assumes nothing.
use Rattle.squeeze.proofs.CallLaws.{squeeze_ready, stopped_refused, stopped_made}
use Rattle.squeeze.proofs.squeeze_page_stopped.Goals as goal

pub squeezing_cut-left-requires : goal.squeezing_cut-left-requires
squeezing_cut-left-requires c = squeeze_ready _ _ _ _ c.check_plan.ensures c.in-Ok.is

pub returns-in-Err : goal.returns-in-Err
returns-in-Err c = let all_of = stopped_refused _ _ _ _ c.check_plan.ensures _ c.in-Err.is in record { answer = all_of.0; made = all_of.1.0; buffer = all_of.1.1.0; plan = all_of.1.1.1 }

pub returns-in-Ok : goal.returns-in-Ok
returns-in-Ok c = let all_of = stopped_made _ _ _ _ c.check_plan.ensures _ c.in-Ok.is c.squeezing_cut-left.ensures.left c.squeezing_cut-left.ensures.holds c.squeezing_cut-left.ensures.plan in record { answer = all_of.0; made = all_of.1.0; buffer = all_of.1.1.0; plan = all_of.1.1.1 }
