-- `explain::metadata_rows::length_row` meets its contract. Assumes nothing.
use Rattle.bodies.specs.MetadataRecord.{metadata_length}
use Rattle.record_reasons.proofs.metadata_rows.length_row.Goals as goal

pub returns : goal.returns
unfolding metadata_length
returns c = cc
