-- `tile_sizes::plain_length` meets its contract. Assumes nothing.
use Prim.Native.Nat.{ℕ}
use mathlib.Core.Path.{◌≡◌}
use Rattle.header.specs.Element.{entries_read}
use Rattle.wire.specs.Tests.{sum_below}
use Rattle.geometry.specs.Sizes.{stored_size, element_bytes}
use Rattle.tile_sizes.proofs.plain_length.Given as goal

abbrev pub invariant-loop-e : goal.invariant-loop-e
invariant-loop-e l = (l.e-end ≡ entries_read l.s) × (l.sum ≡ sum_below l.e (λ (d : ℕ). stored_size (element_bytes l.s d)))
