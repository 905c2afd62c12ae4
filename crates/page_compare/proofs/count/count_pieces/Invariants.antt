-- `page_compare::count::count_pieces` meets its contract. Assumes nothing.
use Prim.Native.Nat.{◌≤◌}
use mathlib.Core.Path.{◌≡◌}
use lib.ListN.{length}
use Rattle.blocks.specs.Walks.{walk_left}
use Rattle.page_compare.specs.Counting.{Along}
use Rattle.page_compare.proofs.count.count_pieces.Given as goal

abbrev pub invariant-loop-p : goal.invariant-loop-p
invariant-loop-p l = (length l.memory ≡ length l.initial.memory) × ((length l.marks ≡ length l.initial.marks) × ((length l.counts ≡ length l.initial.counts) × ((l.cells ≤ 16777216) × Along l.first l.second l.q l.a l.top l.bottom l.every l.counts l.p)))

abbrev pub decreases-loop-p : goal.decreases-loop-p
decreases-loop-p l = walk_left l.a.rows l.a.columns l.p.top l.p.left
