-- `gvrs_c::gvrs_compare_names` meets its contract. Assumes nothing.
use Rattle.gvrs_c.proofs.ReportLaws.{compare_told}
use Rattle.gvrs_c.proofs.gvrs_compare_names.Goals as goal

pub returns-then-compared : goal.returns-then-compared
returns-then-compared c = let all_of = compare_told _ _ _ _ _ _ c.compare-compared.ensures c.report.ensures (rw c.if-compared.true) in record { equal = all_of.0; pairs = all_of.1 }

pub returns : goal.returns
returns c = let all_of = compare_told _ _ _ _ _ _ c.compare-compared.ensures c.report.ensures (rw c.if-compared.false) in record { equal = all_of.0; pairs = all_of.1 }
