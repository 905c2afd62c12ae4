-- `correction_logs::entry_right` meets its contract. Assumes nothing.
use native.Mathlib.Omega.{arith}
use Rattle.correction_logs.proofs.LogLaws.{entry_not, entry_past, entry_yes}
use Rattle.correction_logs.proofs.entry_right.Goals as goal

pub returns-then-tiles-entry_tile : goal.returns-then-tiles-entry_tile
returns-then-tiles-entry_tile c = entry_past _ _ _ _ _ c.entry_tile.ensures (omega arith)

pub returns-then-entry_whole : goal.returns-then-entry_whole
returns-then-entry_whole c = entry_yes _ _ _ _ _ c.entry_whole.ensures c.if-entry_whole.true c.entry_tile.ensures (omega arith)

pub returns : goal.returns
returns c = entry_not _ _ _ _ c.entry_whole.ensures c.if-entry_whole.false
