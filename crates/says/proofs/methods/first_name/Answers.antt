-- `says::methods::first_name` meets its contract. Assumes nothing.
use Rattle.says.proofs.MethodLaws.{method_first}
use Rattle.says.proofs.methods.first_name.Goals as goal

pub returns-clause-is : goal.returns-clause-is
returns-clause-is c = method_first _ _ _ c.element_count.ensures c.entry_start.ensures.is
