-- `explain::list_rows::metadata_others` meets its contract. Assumes nothing.

use Rattle.explain.proofs.list_rows.metadata_others.Goals as goal

pub returns : goal.returns
returns c = cc
