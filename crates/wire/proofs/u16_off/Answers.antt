-- `wire::u16_off` meets its contract. Assumes nothing.
use native.Mathlib.Omega.{arith}
use mathlib.Core.Path.{◌∙◌}
use Rattle.wire.proofs.ByteLaws.{saturated_number}
use Rattle.wire.proofs.u16_off.Goals as goal

pub returns-clause-is : goal.returns-clause-is
returns-clause-is c = c.u16_at.ensures.is ∙ saturated_number 2 _ _ _ _ (omega arith) (omega arith) c.saturating_add.ensures
