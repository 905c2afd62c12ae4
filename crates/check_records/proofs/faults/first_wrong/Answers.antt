-- `check_records::faults::first_wrong` meets its contract. Assumes nothing.
use Rattle.record.specs.Chain.{records, find_not, first_record}
use Rattle.check_records.specs.Faults.{first_wrong}
use Rattle.check_records.proofs.faults.first_wrong.Goals as goal

pub returns : goal.returns
unfolding first_wrong records find_not first_record
returns c = rw c.header_end.ensures at c.find.ensures
