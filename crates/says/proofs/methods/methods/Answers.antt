-- `says::methods::methods` meets its contract. Assumes nothing.
use Rattle.says.proofs.ItemLaws.{list_refused, list_accepted, none_listed, numbers_listed}
use Rattle.says.proofs.methods.methods.Goals as goal

pub returns-in-Err-clause-is : goal.returns-in-Err-clause-is
returns-in-Err-clause-is c = list_refused _ _ _ _ _ _ c.check.ensures _ c.in-Err.is

pub returns-in-Err-clause-numbers : goal.returns-in-Err-clause-numbers
returns-in-Err-clause-numbers c = none_listed _ _ _ _ _ _ c.check.ensures _ _ _ c.in-Err.is

pub returns-in-Ok-clause-is : goal.returns-in-Ok-clause-is
returns-in-Ok-clause-is c = list_accepted _ _ _ _ _ _ c.check.ensures _ c.in-Ok.is c.list_names.ensures.is

pub returns-in-Ok-clause-numbers : goal.returns-in-Ok-clause-numbers
returns-in-Ok-clause-numbers c = numbers_listed _ _ _ _ _ _ c.check.ensures _ _ _ c.in-Ok.is c.list_names.ensures.numbers
