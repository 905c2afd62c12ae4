-- `correction_logs::entry_tile` meets its contract. Assumes nothing.
use native.Mathlib.Omega.{arith}
use Rattle.correction_logs.proofs.LogLaws.{tile_is, tile_out}
use Rattle.correction_logs.proofs.entry_tile.Goals as goal

pub returns-then-at-log : goal.returns-then-at-log
returns-then-at-log c = tile_is _ _ _ c.u32_at.ensures

pub returns : goal.returns
returns c = tile_out _ _ (omega arith)
