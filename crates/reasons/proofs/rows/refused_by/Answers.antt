-- `reasons::rows::refused_by` meets its contract. Assumes nothing.
use native.Mathlib.Omega.{arith}
use Rattle.reasons.specs.Stages.{refused_by}
use Rattle.reasons.proofs.rows.refused_by.Goals as goal

pub returns : goal.returns
unfolding refused_by
returns c = grind arith
