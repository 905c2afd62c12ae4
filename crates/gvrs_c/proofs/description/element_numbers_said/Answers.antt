-- `gvrs_c::description::element_numbers_said` meets its contract. Assumes nothing.
use Rattle.gvrs_c.proofs.DescriptionLaws.{element_all_told, element_all_refused}
use Rattle.gvrs_c.proofs.description.element_numbers_said.Goals as goal

pub returns-in-Ok : goal.returns-in-Ok
returns-in-Ok c = element_all_told _ _ _ _ c.in-Ok.is c.of_element-y.ensures

pub returns-in-Err : goal.returns-in-Err
returns-in-Err c = element_all_refused _ _ _ _ c.in-Err.is c.refusal_place-place.ensures
