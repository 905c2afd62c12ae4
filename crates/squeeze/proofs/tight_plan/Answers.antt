-- `squeeze::tight_plan` meets its contract. Assumes nothing.
use Rattle.correct.proofs.ListLaws.{part_page}
use Rattle.squeeze.proofs.CallLaws.{slides_refused, slides_passed}
use Rattle.squeeze.proofs.tight_plan.Goals as goal

pub returns-in-Err : goal.returns-in-Err
returns-in-Err c = let all_of = slides_refused _ _ _ c.on_open_page.ensures _ c.in-Err.is in record { answer = all_of.0; starts = all_of.1.0; plan = all_of.1.1 }

pub returns-in-Ok : goal.returns-in-Ok
returns-in-Ok c = let all_of = slides_passed _ _ _ c.on_open_page.ensures _ c.in-Ok.is (part_page _ _ c.part_of-s.ensures.holds) c.tight_plan-answer.ensures.answer c.kept_count-starts.ensures c.tight_plan-answer.ensures.plan in record { answer = all_of.0; starts = all_of.1.0; plan = all_of.1.1 }
