-- `says::tiles::packed_mask` meets its contract. Assumes nothing.
use Prim.Native.Nat.{◌-◌, ◌≤◌, ◌<◌}
use mathlib.Core.Path.{◌≡◌}
use Rattle.header.specs.Element.{entries_read}
use Rattle.cells.specs.TileCells.{packed}
use Rattle.says.specs.Tiles.{bit, mask_of}
use Rattle.says.proofs.tiles.packed_mask.Given as goal

abbrev pub invariant-loop-e : goal.invariant-loop-e
invariant-loop-e l =
    (l.e ≤ l.n) × (l.n ≤ 16) × (l.bit ≤ 65536) × (l.mask < l.bit) × (l.n ≡ entries_read l.s) × (l.bit ≡ bit l.e) × (l.mask ≡ mask_of l.e (packed l.s l.x))

abbrev pub decreases-loop-e : goal.decreases-loop-e
decreases-loop-e l = l.n - l.e
