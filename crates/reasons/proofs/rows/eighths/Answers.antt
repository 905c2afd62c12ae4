-- `reasons::rows::eighths` meets its contract. Assumes nothing.
use Rattle.reasons.specs.Rows.{judged}
use Rattle.reasons.proofs.rows.eighths.Goals as goal

pub returns : goal.returns
unfolding judged
returns c = cc
