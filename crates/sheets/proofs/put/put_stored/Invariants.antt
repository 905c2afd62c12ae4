-- `sheets::put::put_stored` meets its contract. Assumes nothing.
use Prim.Native.Nat.{◌+◌, ◌*◌, ◌≤◌}
use Rattle.blocks.specs.Tables.{Inside, Filled}
use Rattle.sheets.specs.Rows.{score_byte}
use Rattle.sheets.proofs.put.put_stored.Given as goal

abbrev pub invariant-loop-c : goal.invariant-loop-c
invariant-loop-c l = (l.run.left ≤ l.c) × ((l.c ≤ l.run.right) × Filled (2 * l.a.columns) (score_byte l.file l.compressor) (Inside l.run.row (l.run.row + 1) (2 * l.run.left) (2 * l.c)) l.initial.out l.out)
