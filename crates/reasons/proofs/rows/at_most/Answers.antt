-- `reasons::rows::at_most` meets its contract. Assumes nothing.
use Rattle.reasons.specs.Rows.{judged}
use Rattle.reasons.proofs.rows.at_most.Goals as goal

pub returns : goal.returns
unfolding judged
returns c = cc
