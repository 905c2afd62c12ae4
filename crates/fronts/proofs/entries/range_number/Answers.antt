-- `fronts::entries::range_number` meets its contract. Assumes nothing.
use native.Mathlib.Omega.{arith}
use Rattle.fronts.proofs.WriteLaws.{number_short, number_other}
use Rattle.fronts.proofs.entries.range_number.Goals as goal

pub returns-then-kind-eq-SHORT : goal.returns-then-kind-eq-SHORT
returns-then-kind-eq-SHORT c = number_short _ _ (omega arith)

pub returns-else-kind-eq-SHORT : goal.returns-else-kind-eq-SHORT
returns-else-kind-eq-SHORT c = number_other _ _ (λ h. omega arith)
