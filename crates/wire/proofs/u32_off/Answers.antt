-- `wire::u32_off` meets its contract. Assumes nothing.
use native.Mathlib.Omega.{arith}
use mathlib.Core.Path.{◌∙◌}
use Rattle.wire.proofs.ByteLaws.{saturated_number}
use Rattle.wire.proofs.u32_off.Goals as goal

pub returns : goal.returns
returns c = c.u32_at.ensures ∙ saturated_number 4 _ _ _ _ (omega arith) (omega arith) c.saturating_add.ensures
