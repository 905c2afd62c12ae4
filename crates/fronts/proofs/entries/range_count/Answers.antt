-- `fronts::entries::range_count` meets its contract. Assumes nothing.
use native.Mathlib.Omega.{arith}
use Rattle.fronts.proofs.WriteLaws.{count_coded, count_other}
use Rattle.fronts.proofs.entries.range_count.Goals as goal

pub returns-then-kind-eq-INTEGER_CODED-clause-is : goal.returns-then-kind-eq-INTEGER_CODED-clause-is
returns-then-kind-eq-INTEGER_CODED-clause-is c = count_coded _ (omega arith)

pub returns-else-kind-eq-INTEGER_CODED-clause-is : goal.returns-else-kind-eq-INTEGER_CODED-clause-is
returns-else-kind-eq-INTEGER_CODED-clause-is c = count_other _ (λ h. omega arith)
