-- `gvrs_c::description::page_numbers` meets its contract. Assumes nothing.
use Rattle.gvrs_c.proofs.DescriptionLaws.{page_told, page_refused}
use Rattle.gvrs_c.proofs.description.page_numbers.Goals as goal

pub returns-in-Ok : goal.returns-in-Ok
returns-in-Ok c = page_told _ _ _ c.in-Ok.is c.in_order.ensures

pub returns-in-Err : goal.returns-in-Err
returns-in-Err c = page_refused _ _ _ c.in-Err.is c.refusal_place-place.ensures
