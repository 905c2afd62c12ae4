-- `explain::list_rows::free_counted` meets its contract. Assumes nothing.

use Rattle.explain.proofs.list_rows.free_counted.Goals as goal

pub returns : goal.returns
returns c = cc
