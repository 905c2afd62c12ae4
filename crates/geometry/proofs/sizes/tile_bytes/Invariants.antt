-- `geometry::sizes::tile_bytes` meets its contract. Assumes nothing.
use Prim.Native.Nat.{min}
use mathlib.Core.Path.{◌≡◌}
use Rattle.wire.specs.Tests.{sum_below}
use Rattle.header.specs.Element.{entries_read}
use Rattle.geometry.specs.Sizes.{element_bytes, cap}
use Rattle.geometry.proofs.sizes.tile_bytes.Given as goal

abbrev pub invariant-loop-e : goal.invariant-loop-e
invariant-loop-e l = (l.e-end ≡ entries_read l.s) × (l.sum ≡ min (sum_below l.e (element_bytes l.s)) cap)
