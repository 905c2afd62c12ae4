-- `squeeze::check_plan` meets its contract. Assumes nothing.
use Rattle.squeeze.proofs.CallLaws.{plan_refused, plan_told}
use Rattle.squeeze.proofs.check_plan.Goals as goal

pub returns-in-Err : goal.returns-in-Err
returns-in-Err c = plan_refused _ _ c.on_open_page.ensures _ _ c.in-Err.is

pub returns-in-Ok : goal.returns-in-Ok
returns-in-Ok c = plan_told _ _ c.on_open_page.ensures _ c.in-Ok.is c.part_of.ensures.holds c.check_plan.ensures
