-- `sheets::weigh::weigh_row` meets its contract. Assumes nothing.
use Prim.Native.Nat.{◌+◌, ◌≤◌}
use mathlib.Core.Path.{◌≡◌}
use Rattle.sheets.specs.First.{heaviest}
use Rattle.sheets.specs.Rows.{grid_fault}
use Rattle.sheets.proofs.weigh.weigh_row.Given as goal

abbrev pub invariant-loop-c : goal.invariant-loop-c
invariant-loop-c l = (l.run.left ≤ l.c) × ((l.c ≤ l.run.right) × (l.w ≡ heaviest l.a.rows l.a.columns (grid_fault l.file l.x.compressor) l.run.row (l.run.row + 1) l.run.left l.c))
