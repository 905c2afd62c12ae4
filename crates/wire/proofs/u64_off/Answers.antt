-- `wire::u64_off` meets its contract. Assumes nothing.
use native.Mathlib.Omega.{arith}
use mathlib.Core.Path.{◌∙◌}
use Rattle.wire.proofs.ByteLaws.{saturated_number}
use Rattle.wire.proofs.u64_off.Goals as goal

pub returns : goal.returns
returns c = c.u64_at.ensures ∙ saturated_number 8 _ _ _ _ (omega arith) (omega arith) c.saturating_add.ensures
