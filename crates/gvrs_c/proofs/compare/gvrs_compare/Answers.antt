-- `gvrs_c::compare::gvrs_compare` meets its contract. Assumes nothing.
use Rattle.comparisons.specs.Comparisons.{written}
use Rattle.gvrs_c.proofs.CompareLaws.{compared_told}
use Rattle.gvrs_c.proofs.compare.gvrs_compare.Goals as goal

pub returns : goal.returns
returns c = let all_of = compared_told (written _ _ _ _ _) _ _ _ _ _ _ _ _ c.compare_pages-x.ensures.is c.compare_pages-x.ensures.list c.comparison_numbers-numbers.ensures c.report_all.ensures c.comparison_number.ensures in record { number = all_of.0; told = all_of.1.0; list = all_of.1.1 }
