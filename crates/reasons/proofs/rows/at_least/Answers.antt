-- `reasons::rows::at_least` meets its contract. Assumes nothing.
use Rattle.reasons.specs.Rows.{judged}
use Rattle.reasons.proofs.rows.at_least.Goals as goal

pub returns : goal.returns
unfolding judged
returns c = cc
