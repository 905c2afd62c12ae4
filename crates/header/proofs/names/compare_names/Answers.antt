-- `header::names::compare_names` meets its contract. Assumes nothing.

use Rattle.header.proofs.names.compare_names.Goals as goal

pub returns : goal.returns
returns c = cc
