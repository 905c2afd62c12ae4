-- `squeeze::moving::slide` meets its contract. Assumes nothing.
use Prim.Native.Nat.{◌+◌, ◌≤◌, ◌-◌}
use mathlib.Core.Path.{◌≡◌}
use lib.ListN.{length}
use Rattle.wire.specs.Bytes.{part, put}
use Rattle.squeeze.proofs.moving.slide.Given as goal

abbrev pub invariant-loop-i : goal.invariant-loop-i
invariant-loop-i l = (l.i ≤ l.n) × (l.to ≤ l.from) × (l.from + l.n ≤ length l.initial.out) × (length l.out ≡ length l.initial.out) × (l.out ≡ put l.initial.out l.to (part l.initial.out l.from l.i))

abbrev pub decreases-loop-i : goal.decreases-loop-i
decreases-loop-i l = l.n - l.i
