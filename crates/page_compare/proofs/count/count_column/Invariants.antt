-- `page_compare::count::count_column` meets its contract. Assumes nothing.
use Prim.Native.Nat.{◌+◌, ◌-◌}
use lib.ListN.{get_or}
use lib.Dec.{eqb}
use Rattle.wire.proofs.CountLaws.{Counted}
use Rattle.page_compare.proofs.count.count_column.Given as goal

abbrev pub invariant-loop-e : goal.invariant-loop-e
invariant-loop-e l = Counted l.elements (λ k. eqb (get_or l.marks (l.at + k) 0) 1) l.e l.n

abbrev pub decreases-loop-e : goal.decreases-loop-e
decreases-loop-e l = l.elements - l.e
