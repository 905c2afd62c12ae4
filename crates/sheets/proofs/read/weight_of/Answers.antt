-- `sheets::read::weight_of` meets its contract. Assumes nothing.
use mathlib.Core.Path.{sym, ◌∙◌}
use Rattle.sheets.proofs.ReadLaws.{no_weight, some_weight}
use Rattle.sheets.proofs.read.weight_of.Goals as goal

pub returns-in-Ok : goal.returns-in-Ok
returns-in-Ok c = no_weight _ _ (sym c.fault_of.ensures ∙ c.in-Ok.is)

pub returns-in-Err : goal.returns-in-Err
returns-in-Err c = some_weight _ _ _ (sym c.fault_of.ensures ∙ c.in-Err.is)
