-- `says::lists::put_item` meets its contract. Assumes nothing.
use Prim.Native.Nat.{◌≤◌, ◌-◌}
use mathlib.Core.Path.{◌≡◌}
use lib.ListN.{length}
use Rattle.wire.proofs.PutLaws.{pasted}
use Rattle.says.proofs.lists.put_item.Given as goal

abbrev pub invariant-loop-i : goal.invariant-loop-i
invariant-loop-i l = (l.i ≤ length l.item) × (length l.numbers ≡ length l.initial.numbers) × (l.numbers ≡ pasted l.initial.numbers l.at l.item l.i)

abbrev pub decreases-loop-i : goal.decreases-loop-i
decreases-loop-i l = length l.item - l.i
