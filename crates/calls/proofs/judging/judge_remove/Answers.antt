-- `calls::judging::judge_remove` meets its contract. Assumes nothing.
use native.Mathlib.Omega.{arith}
use Rattle.calls.proofs.JudgeLaws.{not_workable, remove_outside, remove_long}
use Rattle.calls.proofs.judging.judge_remove.Goals as goal

pub returns-then-tile_count-tile : goal.returns-then-tile_count-tile
returns-then-tile_count-tile c = remove_outside _ _ c.part_of-s.ensures.holds c.is_workable.ensures c.if-is_workable.true _ c.tile_count.ensures (omega arith)

pub returns-then-is_workable : goal.returns-then-is_workable
returns-then-is_workable c = remove_long _ _ c.part_of-s.ensures.holds c.is_workable.ensures c.if-is_workable.true _ c.tile_count.ensures (omega arith)

pub returns : goal.returns
returns c = not_workable _ _ _ c.part_of-s.ensures.holds c.is_workable.ensures c.if-is_workable.false
