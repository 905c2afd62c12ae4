-- `explain::list_rows::metadata_counted` meets its contract. Assumes nothing.

use Rattle.explain.proofs.list_rows.metadata_counted.Goals as goal

pub returns : goal.returns
returns c = cc
