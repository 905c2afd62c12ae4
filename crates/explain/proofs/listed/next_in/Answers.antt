-- `explain::listed::next_in` meets its contract. Assumes nothing.

use Rattle.explain.proofs.listed.next_in.Goals as goal

pub returns : goal.returns
returns c = cc
