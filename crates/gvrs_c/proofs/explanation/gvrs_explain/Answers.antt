-- `gvrs_c::explanation::gvrs_explain` meets its contract. Assumes nothing.
use Rattle.gvrs_c.specs.Explanation.{explained_number, explained_numbers}
use Rattle.gvrs_c.proofs.DescriptionLaws.{list_told}
use Rattle.gvrs_c.proofs.explanation.gvrs_explain.Goals as goal

pub returns : goal.returns
returns c = let all_of = list_told explained_number explained_numbers _ _ _ _ _ _ c.explain-x.ensures c.explained_numbers-numbers.ensures c.report_all.ensures c.explained_number.ensures in record { number = all_of.0; told = all_of.1 }
