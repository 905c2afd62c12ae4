-- `explain::metadata_rows::name_row` meets its contract. Assumes nothing.

use Rattle.record_reasons.proofs.metadata_rows.name_row.Goals as goal

pub returns : goal.returns
returns c = cc
