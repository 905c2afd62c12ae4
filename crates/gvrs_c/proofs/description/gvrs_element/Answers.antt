-- `gvrs_c::description::gvrs_element` meets its contract. Assumes nothing.
use Rattle.store.specs.Description.{specified_number}
use Rattle.gvrs_c.specs.Description.{element_numbers}
use Rattle.gvrs_c.proofs.DescriptionLaws.{list_told}
use Rattle.gvrs_c.proofs.description.gvrs_element.Goals as goal

pub returns : goal.returns
returns c = let all_of = list_told specified_number element_numbers _ _ _ _ _ _ c.specify-x.ensures c.element_numbers-numbers.ensures c.report_all.ensures c.specified_number.ensures in record { number = all_of.0; told = all_of.1 }
