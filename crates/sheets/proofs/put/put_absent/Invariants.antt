-- `sheets::put::put_absent` meets its contract. Assumes nothing.
use Prim.Native.Nat.{◌*◌, ◌≤◌}
use Rattle.blocks.specs.Tables.{Inside, Filled}
use Rattle.sheets.proofs.put.put_absent.Given as goal

abbrev pub invariant-loop-r : goal.invariant-loop-r
invariant-loop-r l = (l.p.top ≤ l.r) × ((l.r ≤ l.p.bottom) × Filled (2 * l.a.columns) (λ _ _. 255) (Inside l.p.top l.r (2 * l.p.left) (2 * l.p.right)) l.initial.out l.out)
