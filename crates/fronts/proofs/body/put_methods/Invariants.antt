-- `fronts::body::put_methods` meets its contract. Assumes nothing.
use Prim.Native.Nat.{◌-◌, ◌≤◌}
use Rattle.fronts.proofs.BodyLaws.{Named}
use Rattle.fronts.proofs.body.put_methods.Given as goal

abbrev pub invariant-loop-i : goal.invariant-loop-i
invariant-loop-i l = (l.i ≤ l.n) × Named l.initial.out l.at l.page l.texts l.from l.out l.p l.start l.i

abbrev pub decreases-loop-i : goal.decreases-loop-i
decreases-loop-i l = l.n - l.i
