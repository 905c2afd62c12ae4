-- `wire::same_bytes` meets its contract. Assumes nothing.
use Rattle.wire.proofs.CompareLaws.{told_equal}
use Rattle.wire.proofs.same_bytes.Goals as goal

pub returns : goal.returns
returns c = told_equal _ _ c.compare.ensures
