-- `lay_down::is_ascending` meets its contract. Assumes nothing.
use Rattle.lay_down.specs.Answer.{ascending}
use lib.ListN.{length, drop}
use mathlib.Core.Path.{◌≡◌}
use Prim.Native.Nat.{◌≤◌}
use Rattle.lay_down.proofs.is_ascending.Given as goal

abbrev pub invariant-loop-index : goal.invariant-loop-index
invariant-loop-index l = (l.index-index ≤ length l.indexes) × (ascending l.n l.least (drop l.index-index l.indexes) ≡ ascending l.n 0 l.indexes)
