-- `page_compare::sides::hold_page` meets its contract. Assumes nothing.
use Prim.Native.Nat.{◌-◌, ◌≤◌}
use mathlib.Core.Path.{◌≡◌}
use lib.ListN.{length}
use Rattle.page_compare.specs.Sides.{PageUpto}
use Rattle.page_compare.proofs.sides.hold_page.Given as goal

abbrev pub invariant-loop-e : goal.invariant-loop-e
invariant-loop-e l = (l.e ≤ l.n) × ((length l.xs ≡ 16) × PageUpto l.file l.compressor l.a l.p l.e l.low l.high l.cells l.xs l.initial.memory l.memory)

abbrev pub decreases-loop-e : goal.decreases-loop-e
decreases-loop-e l = l.n - l.e
