-- `reasons::rows::equal` meets its contract. Assumes nothing.
use Rattle.reasons.specs.Rows.{judged}
use Rattle.reasons.proofs.rows.equal.Goals as goal

pub returns : goal.returns
unfolding judged
returns c = cc
