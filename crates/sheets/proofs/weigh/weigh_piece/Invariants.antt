-- `sheets::weigh::weigh_piece` meets its contract. Assumes nothing.
use Prim.Native.Nat.{◌≤◌}
use mathlib.Core.Path.{◌≡◌}
use Rattle.sheets.specs.First.{heaviest}
use Rattle.sheets.specs.Rows.{grid_fault}
use Rattle.sheets.proofs.weigh.weigh_piece.Given as goal

abbrev pub invariant-loop-r : goal.invariant-loop-r
invariant-loop-r l = (l.p.top ≤ l.r) × ((l.r ≤ l.p.bottom) × (l.w ≡ heaviest l.a.rows l.a.columns (grid_fault l.file l.x.compressor) l.p.top l.r l.p.left l.p.right))
