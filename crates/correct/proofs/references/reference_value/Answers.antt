-- `correct::references::reference_value` meets its contract. Assumes nothing.
use native.Mathlib.Omega.{arith}
use Rattle.correct.proofs.ReferenceLaws.{value_eight, value_four}
use Rattle.correct.proofs.references.reference_value.Goals as goal

pub returns-then-w-eq8 : goal.returns-then-w-eq8
returns-then-w-eq8 c = value_eight c.args.w _ (omega arith)

pub returns : goal.returns
returns c = value_four c.args.w _ (λ z. omega arith)
