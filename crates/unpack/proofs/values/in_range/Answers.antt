-- `unpack::values::in_range` meets its contract. Assumes nothing.
use Rattle.unpack.proofs.ValueLaws.{range_short, range_wide}
use Rattle.unpack.proofs.values.in_range.Goals as goal

pub returns-then-short : goal.returns-then-short
returns-then-short c = range_short _ _ _ c.if-short.true c.all_short.ensures

pub returns : goal.returns
returns c = range_wide _ _ c.if-short.false
