-- `gvrs_c::deed::gvrs_deed` meets its contract. Assumes nothing.
use Rattle.deeds.specs.Deeds.{deed_number}
use Rattle.gvrs_c.specs.Report.{deed_numbers}
use Rattle.gvrs_c.proofs.DescriptionLaws.{list_told}
use Rattle.gvrs_c.proofs.deed.gvrs_deed.Goals as goal

pub returns : goal.returns
returns c = let all_of = list_told deed_number deed_numbers _ _ _ _ _ _ c.judge-x.ensures c.deed_numbers-numbers.ensures c.report_all.ensures c.deed_number.ensures in record { number = all_of.0; told = all_of.1 }
