-- `explain::metadata_rows::description_row` meets its contract. Assumes nothing.
use Rattle.reasons.specs.HeadRows.{text_row}
use Rattle.record_reasons.proofs.metadata_rows.description_row.Goals as goal

pub returns : goal.returns
unfolding text_row
returns c = cc
