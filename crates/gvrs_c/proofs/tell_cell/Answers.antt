-- `gvrs_c::tell_cell` meets its contract. Assumes nothing.
use Rattle.gvrs_c.proofs.ReportLaws.{cell_told}
use Rattle.gvrs_c.proofs.tell_cell.Goals as goal

pub returns : goal.returns
returns c = let all_of = cell_told _ _ _ _ _ _ _ _ _ _ _ c.read_by-cell.ensures c.cell_numbers-numbers.ensures c.report_all.ensures c.cell_kind.ensures in record { kind = all_of.0; value = all_of.1.0; meaning = all_of.1.1 }
