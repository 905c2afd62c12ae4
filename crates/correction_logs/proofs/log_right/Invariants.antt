-- `correction_logs::log_right` meets its contract. Assumes nothing.
use Prim.Native.Nat.{◌+◌, ◌-◌, ◌≤◌}
use mathlib.Core.Path.{◌≡◌}
use lib.ListN.{length}
use Rattle.wire.specs.Bytes.{byte_at}
use Rattle.wire.specs.Big.{big_at}
use Rattle.correction_logs.proofs.LogLaws.{Walks}
use Rattle.correction_logs.proofs.log_right.Given as goal

abbrev pub invariant-loop-at : goal.invariant-loop-at
invariant-loop-at l = Walks l.tiles l.long l.log l.at × (l.at ≤ length l.log) × (5 ≤ length l.log) × (big_at 4 l.log 0 + 4 ≡ length l.log) × (byte_at l.log 4 ≡ 1) × (l.n ≡ length l.log)

abbrev pub decreases-loop-at : goal.decreases-loop-at
decreases-loop-at l = length l.log - l.at
