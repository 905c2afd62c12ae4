-- `fronts::judge::tile_told` meets its contract. Assumes nothing.
use Prim.Native.Nat.{◌-◌, ◌≤◌}
use Rattle.fronts.proofs.JudgeLaws.{Tiled}
use Rattle.fronts.proofs.judge.tile_told.Given as goal

abbrev pub invariant-loop-e : goal.invariant-loop-e
invariant-loop-e l = (l.e ≤ l.n) × Tiled l.elements l.height l.width l.sum l.e

abbrev pub decreases-loop-e : goal.decreases-loop-e
decreases-loop-e l = l.n - l.e
