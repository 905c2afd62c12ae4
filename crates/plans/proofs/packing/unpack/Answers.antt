-- `plans::packing::unpack` meets its contract. Assumes nothing.
use borrow.Author.Rules.{rules}
use native.Mathlib.Omega.{arith}
use mathlib.Core.Path.{refl}
use lib.ListN.{length-set}
use Rattle.plans.specs.Moved.{new_in}
use Rattle.plans.proofs.PackLaws.{unpacking_begin, unpacking_end, unpacking_more}
use Rattle.plans.proofs.packing.unpack.Goals as goal

pub loop-k-init : goal.loop-k-init
unfolding new_in
loop-k-init c = (refl, unpacking_begin _)

pub loop-k-preserved : goal.loop-k-preserved
unfolding new_in
loop-k-preserved c = (simp length-set (search rules), unpacking_more c.loop-k.invariant.1 (omega arith) refl)

pub returns : goal.returns
unfolding new_in
returns c = unpacking_end c.loop-k.invariant.1 (omega arith)
