-- `sheets::put::put_unread` meets its contract. Assumes nothing.
use Prim.Native.Nat.{◌+◌, ◌*◌, ◌≤◌}
use Rattle.blocks.specs.Tables.{Inside, Filled}
use Rattle.sheets.proofs.put.put_unread.Given as goal

abbrev pub invariant-loop-j : goal.invariant-loop-j
invariant-loop-j l = (2 * l.left ≤ l.j) × ((l.j ≤ 2 * l.right) × Filled (2 * l.a.columns) (λ _ _. 255) (Inside l.r (l.r + 1) (2 * l.left) l.j) l.initial.out l.out)
