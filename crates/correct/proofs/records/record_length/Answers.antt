-- `correct::records::record_length` meets its contract. Assumes nothing.
use Rattle.correct.proofs.RecordLaws.{record_length_is}
use Rattle.correct.proofs.records.record_length.Goals as goal

pub returns : goal.returns
returns c = record_length_is _
