-- `plans::packing::both_in` meets its contract. Assumes nothing.
use borrow.Author.Rules.{rules}
use Rattle.plans.specs.Moved.{both_in}
use Rattle.plans.proofs.packing.both_in.Goals as goal

pub returns : goal.returns
unfolding both_in
returns c = search rules
