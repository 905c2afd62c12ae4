-- `cells::held::put_stored` meets its contract. Assumes nothing.
use mathlib.Core.Path.{◌≡◌}
use Prim.Native.Nat.{◌≤◌}
use lib.ListN.{length}
use Rattle.wire.proofs.PutLaws.{pasted}
use Rattle.cells.specs.TileCells.{stored_bits}
use Rattle.cells.proofs.held.put_stored.Given as goal

abbrev pub invariant-loop-i : goal.invariant-loop-i
invariant-loop-i l = (l.n ≤ length l.initial.out) × ((l.i ≤ l.n) × ((length l.out ≡ length l.initial.out) × (l.out ≡ pasted l.initial.out 0 (stored_bits l.s l.kind l.at l.n) l.i)))
