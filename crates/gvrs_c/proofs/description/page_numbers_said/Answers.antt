-- `gvrs_c::description::page_numbers_said` meets its contract. Assumes nothing.
use Rattle.gvrs_c.proofs.DescriptionLaws.{page_all_told, page_all_refused}
use Rattle.gvrs_c.proofs.description.page_numbers_said.Goals as goal

pub returns-in-Ok : goal.returns-in-Ok
returns-in-Ok c = page_all_told _ _ _ _ _ c.in-Ok.is c.of_page-y.ensures c.all_in_order.ensures

pub returns-in-Err : goal.returns-in-Err
returns-in-Err c = page_all_refused _ _ _ _ c.in-Err.is c.refusal_place-place.ensures
