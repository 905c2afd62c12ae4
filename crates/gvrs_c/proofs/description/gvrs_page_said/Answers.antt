-- `gvrs_c::description::gvrs_page_said` meets its contract. Assumes nothing.
use Rattle.store.specs.Description.{described_number}
use Rattle.says.specs.Further.{said_of_page}
use Rattle.gvrs_c.specs.Description.{page_numbers_said}
use Rattle.gvrs_c.proofs.DescriptionLaws.{list_told}
use Rattle.gvrs_c.proofs.description.gvrs_page_said.Goals as goal

pub returns : goal.returns
returns c = let all_of = list_told described_number (page_numbers_said (said_of_page _)) _ _ _ _ _ _ c.describe-x.ensures c.page_numbers_said-numbers.ensures c.report_all.ensures c.described_number.ensures in record { number = all_of.0; told = all_of.1 }
