-- `gvrs_c::read_by` meets its contract. Assumes nothing.
use Rattle.gvrs_c.proofs.ReportLaws.{by_walk, by_records, by_directory}
use Rattle.gvrs_c.proofs.read_by.Goals as goal

pub returns-then-route-eq1 : goal.returns-then-route-eq1
returns-then-route-eq1 c = by_walk _ _ _ _ _ _ _ c.if-route-eq1.true c.read_by_walk.ensures.route

pub returns-then-route-eq2 : goal.returns-then-route-eq2
returns-then-route-eq2 c = by_records _ _ _ _ _ _ _ c.if-route-eq2.true c.read_by_records.ensures.route

pub returns : goal.returns
returns c = by_directory _ _ _ _ _ _ _ c.if-route-eq1.false c.if-route-eq2.false c.read_by_directory.ensures.route
