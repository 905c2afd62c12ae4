-- `header::names::same_name` meets its contract. Assumes nothing.
use Rattle.wire.proofs.CompareLaws.{told_equal}
use Rattle.header.proofs.names.same_name.Goals as goal

pub returns : goal.returns
returns c = told_equal _ _ c.compare_names.ensures
