-- `page_compare::compare_alike` meets its contract. Assumes nothing.
use mathlib.Core.Logic.{inl, inr}
use mathlib.Core.Path.{refl}
use Rattle.page_compare.proofs.GridLaws.{listed_then}
use Rattle.page_compare.proofs.compare_alike.Goals as goal

pub compare_step-counted-requires-clause-known : goal.compare_step-counted-requires-clause-known
compare_step-counted-requires-clause-known c = inl refl

pub compare_step-requires-clause-known : goal.compare_step-requires-clause-known
compare_step-requires-clause-known c = inr c.compare_step-counted.ensures.is

pub returns-clause-is : goal.returns-clause-is
returns-clause-is c = c.compare_step.ensures.is

pub returns-clause-list : goal.returns-clause-list
returns-clause-list c = listed_then _ _ _ _ _ _ _ _ _ c.compare_step-counted.ensures.is c.compare_step.ensures.is c.compare_step-counted.ensures.list c.compare_step.ensures.list
