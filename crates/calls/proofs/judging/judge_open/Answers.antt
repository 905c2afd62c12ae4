-- `calls::judging::judge_open` meets its contract. Assumes nothing.
use Rattle.calls.proofs.ReadLaws.{page_worked, worked_page}
use Rattle.calls.proofs.JudgeLaws.{not_workable, open_timed}
use Rattle.calls.proofs.judging.judge_open.Goals as goal

pub opened_length-requires : goal.opened_length-requires
opened_length-requires c = page_worked _ _ c.part_of-s.ensures.holds (worked_page _ _ c.part_of-s.ensures.holds c.is_workable.ensures c.if-is_workable.true)

pub returns-then-is_workable : goal.returns-then-is_workable
returns-then-is_workable c = open_timed _ _ c.part_of-s.ensures.holds c.is_workable.ensures c.if-is_workable.true _ c.opened_length.ensures c.timed.ensures

pub returns : goal.returns
returns c = not_workable _ _ _ c.part_of-s.ensures.holds c.is_workable.ensures c.if-is_workable.false
