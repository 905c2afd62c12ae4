-- `sheets::put::put_piece` meets its contract. Assumes nothing.
use Prim.Native.Nat.{◌*◌, ◌≤◌}
use Rattle.blocks.specs.Tables.{Inside, Filled}
use Rattle.sheets.specs.Rows.{score_byte}
use Rattle.sheets.proofs.put.put_piece.Given as goal

abbrev pub invariant-loop-r : goal.invariant-loop-r
invariant-loop-r l = (l.p.top ≤ l.r) × ((l.r ≤ l.p.bottom) × Filled (2 * l.a.columns) (score_byte l.file l.x.compressor) (Inside l.p.top l.r (2 * l.p.left) (2 * l.p.right)) l.initial.out l.out)
