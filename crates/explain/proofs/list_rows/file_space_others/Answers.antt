-- `explain::list_rows::file_space_others` meets its contract. Assumes nothing.

use Rattle.explain.proofs.list_rows.file_space_others.Goals as goal

pub returns : goal.returns
returns c = cc
