-- `edit_walks::freeing::is_loose` meets its contract. Assumes nothing.
use native.Mathlib.Omega.{arith}
use Rattle.edit_walks.proofs.JoinLaws.{loose_free, loose_as}
use Rattle.edit_walks.proofs.freeing.is_loose.Goals as goal

pub returns-then-kind-eq-FREE : goal.returns-then-kind-eq-FREE
returns-then-kind-eq-FREE c = loose_free _ _ (omega arith)

pub returns : goal.returns
returns c = loose_as _ _ (λ z. omega arith)
