-- `wire::byte_off` meets its contract. Assumes nothing.
use native.Mathlib.Omega.{arith}
use mathlib.Core.Path.{◌∙◌}
use Rattle.wire.proofs.ByteLaws.{saturated_byte}
use Rattle.wire.proofs.byte_off.Goals as goal

pub returns-clause-is : goal.returns-clause-is
returns-clause-is c = c.byte_at.ensures.is ∙ saturated_byte _ _ _ _ (omega arith) c.saturating_add.ensures
