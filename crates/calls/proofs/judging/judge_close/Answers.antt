-- `calls::judging::judge_close` meets its contract. Assumes nothing.
use Rattle.calls.proofs.ReadLaws.{page_worked, worked_page}
use Rattle.calls.proofs.JudgeLaws.{not_workable, close_timed}
use Rattle.calls.proofs.judging.judge_close.Goals as goal

pub closed_length-requires : goal.closed_length-requires
closed_length-requires c = page_worked _ _ c.part_of-s.ensures.holds (worked_page _ _ c.part_of-s.ensures.holds c.is_workable.ensures c.if-is_workable.true)

pub returns-then-is_workable : goal.returns-then-is_workable
returns-then-is_workable c = close_timed _ _ c.part_of-s.ensures.holds c.is_workable.ensures c.if-is_workable.true _ c.closed_length.ensures c.timed.ensures

pub returns : goal.returns
returns c = not_workable _ _ _ c.part_of-s.ensures.holds c.is_workable.ensures c.if-is_workable.false
