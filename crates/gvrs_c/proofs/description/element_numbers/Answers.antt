-- `gvrs_c::description::element_numbers` meets its contract. Assumes nothing.
use Rattle.gvrs_c.proofs.DescriptionLaws.{element_told_lem, element_refused}
use Rattle.gvrs_c.proofs.description.element_numbers.Goals as goal

pub returns-in-Ok : goal.returns-in-Ok
returns-in-Ok c = element_told_lem _ _ c.in-Ok.is

pub returns-in-Err : goal.returns-in-Err
returns-in-Err c = element_refused _ _ _ c.in-Err.is c.refusal_place-place.ensures
