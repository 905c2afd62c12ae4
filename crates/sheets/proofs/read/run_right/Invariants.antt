-- `sheets::read::run_right` meets its contract. Assumes nothing.
use Prim.Native.Nat.{◌≤◌}
use mathlib.Core.Path.{◌≡◌}
use Rattle.sheets.specs.Rows.{run_right}
use Rattle.sheets.proofs.read.run_right.Given as goal

abbrev pub invariant-loop-i : goal.invariant-loop-i
invariant-loop-i l = (l.i ≤ l.n) × (l.right ≡ run_right l.file l.from l.i)
