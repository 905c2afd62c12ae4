-- `calls::judging::judge_tile` meets its contract. Assumes nothing.
use native.Mathlib.Omega.{arith}
use Rattle.correct.specs.Calls.{line_of}
use Rattle.calls.proofs.ReadLaws.{page_worked}
use Rattle.calls.proofs.JudgeLaws.{tile_outside, tile_in_lem, cells_wrong, cells_right, plan_told}
use Rattle.calls.proofs.LengthLaws.{tiles_few}
use Rattle.calls.proofs.judging.judge_tile.Goals as goal

pub returns-then-tile_count-tile : goal.returns-then-tile_count-tile
unfolding line_of
returns-then-tile_count-tile c = tile_outside _ _ _ _ _ _ c.part_of-s.ensures.holds c.tile_count.ensures _ (omega arith)

pub returns-then-cells-tile_bytes : goal.returns-then-cells-tile_bytes
unfolding line_of
returns-then-cells-tile_bytes c = tile_in_lem _ _ _ _ _ _ c.part_of-s.ensures.holds c.tile_count.ensures _ (omega arith) (cells_wrong _ _ _ _ _ _ c.requires c.part_of-s.ensures.holds c.tile_bytes.ensures _ (λ z. omega arith))

pub overflow_cast-tile : goal.overflow_cast-tile
unfolding line_of
overflow_cast-tile c = omega (arith, tiles_few _ _ (page_worked _ _ c.part_of-s.ensures.holds c.requires) c.tile_count.ensures)

pub plan_tile-requires : goal.plan_tile-requires
unfolding line_of
plan_tile-requires c = page_worked _ _ c.part_of-s.ensures.holds c.requires

pub returns : goal.returns
unfolding line_of
returns c = tile_in_lem _ _ _ _ _ _ c.part_of-s.ensures.holds c.tile_count.ensures _ (omega arith) (cells_right _ _ _ _ _ _ c.requires c.part_of-s.ensures.holds c.tile_bytes.ensures _ (omega arith) (plan_told _ _ _ c.part_of-s.ensures.holds c.plan_tile.ensures c.planned_in.ensures))
