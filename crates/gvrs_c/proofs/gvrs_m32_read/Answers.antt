-- `gvrs_c::gvrs_m32_read` meets its contract. Assumes nothing.
use Rattle.gvrs_c.proofs.ReportLaws.{taken_told}
use Rattle.gvrs_c.proofs.gvrs_m32_read.Goals as goal

pub returns-clause-count : goal.returns-clause-count
returns-clause-count c = c.read-read.ensures.count

pub returns-clause-taken : goal.returns-clause-taken
returns-clause-taken c = taken_told _ _ _ _ c.read-read.ensures.taken c.report.ensures

pub returns-clause-holds : goal.returns-clause-holds
returns-clause-holds c = c.read-read.ensures.holds
