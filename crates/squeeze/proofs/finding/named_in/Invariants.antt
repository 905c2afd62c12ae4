-- `squeeze::finding::named_in` meets its contract. Assumes nothing.
use Prim.Native.Nat.{◌+◌, ◌-◌, ◌≤◌}
use mathlib.Core.Path.{◌≡◌}
use lib.ListN.{length}
use Rattle.plans.specs.Moved.{Ascend}
use Rattle.squeeze.proofs.FindLaws.{Between}
use Rattle.squeeze.proofs.finding.named_in.Given as goal

abbrev pub invariant-loop-low : goal.invariant-loop-low
invariant-loop-low l = (8 ≤ l.c) × (l.start + 8 ≡ l.c) × Ascend l.plan × Between l.plan l.c l.low l.high × (l.low ≤ l.high) × (l.high ≤ length l.plan)

abbrev pub decreases-loop-low : goal.decreases-loop-low
decreases-loop-low l = l.high - l.low
