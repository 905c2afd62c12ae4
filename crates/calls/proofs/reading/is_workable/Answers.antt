-- `calls::reading::is_workable` meets its contract. Assumes nothing.
use native.Mathlib.Omega.{arith}
use Rattle.calls.proofs.ReadLaws.{work_short, work_before, work_within}
use Rattle.calls.proofs.reading.is_workable.Goals as goal

pub returns-then-end-lt88 : goal.returns-then-end-lt88
returns-then-end-lt88 c = work_short _ _ c.records_start-end.ensures.is (omega arith)

pub returns-then-tile_directory_at-end : goal.returns-then-tile_directory_at-end
returns-then-tile_directory_at-end c = work_before _ _ c.records_start-end.ensures.is _ c.tile_directory_at.ensures (omega arith)

pub returns : goal.returns
returns c = work_within _ _ c.records_start-end.ensures.is _ c.tile_directory_at.ensures (omega arith) (omega arith) c.within_ceilings.ensures
