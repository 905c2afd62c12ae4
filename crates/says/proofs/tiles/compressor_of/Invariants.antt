-- `says::tiles::compressor_of` meets its contract. Assumes nothing.
use Prim.Native.Nat.{◌-◌, ◌≤◌}
use mathlib.Core.Path.{◌≡◌}
use Rattle.header.specs.Element.{entries_read}
use Rattle.says.proofs.TileLaws.{Uncoded}
use Rattle.says.proofs.tiles.compressor_of.Given as goal

abbrev pub invariant-loop-e : goal.invariant-loop-e
invariant-loop-e l = (l.n ≤ 16) × (l.n ≡ entries_read l.s) × Uncoded l.s l.x l.n l.e

abbrev pub decreases-loop-e : goal.decreases-loop-e
decreases-loop-e l = l.n - l.e
