-- `calls::judging::judge_store` meets its contract. Assumes nothing.
use Rattle.calls.specs.Layouts.{judged_of}
use Rattle.calls.proofs.ReadLaws.{worked_page}
use Rattle.calls.proofs.JudgeLaws.{work_no, work_yes}
use Rattle.calls.proofs.judging.judge_store.Goals as goal

pub judge_tile-requires : goal.judge_tile-requires
unfolding judged_of
judge_tile-requires c = worked_page _ _ c.part_of.ensures.holds c.is_workable.ensures c.if-is_workable.true

pub returns-then-is_workable : goal.returns-then-is_workable
unfolding judged_of
returns-then-is_workable c = work_yes _ _ _ _ _ c.part_of.ensures.holds c.is_workable.ensures c.if-is_workable.true c.judge_tile.ensures

pub returns : goal.returns
unfolding judged_of
returns c = work_no _ _ _ _ _ c.part_of.ensures.holds c.is_workable.ensures c.if-is_workable.false
