-- `unpack::values::put_of_tile` meets its contract. Assumes nothing.
use Rattle.unpack.proofs.ValueLaws.{fit_out, fit_in}
use mathlib.Core.Path.{sym, ◌∙◌}
use native.Mathlib.Omega.{arith}
use Rattle.unpack.proofs.values.put_of_tile.Goals as goal

pub returns-then-out-cells : goal.returns-then-out-cells
returns-then-out-cells c = fit_out _ _ _ _ (omega arith)

pub returns : goal.returns
returns c = c.put_bits.ensures ∙ sym (fit_in _ _ _ _ (omega arith))
