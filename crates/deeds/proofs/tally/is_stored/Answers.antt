-- `deeds::tally::is_stored` meets its contract. Assumes nothing.
use Rattle.deeds.proofs.ScoreLaws.{stored_first, stored_second}
use Rattle.deeds.proofs.tally.is_stored.Goals as goal

pub returns-then-kind-eq32 : goal.returns-then-kind-eq32
returns-then-kind-eq32 c = stored_first _ _ c.cell_kind-kind.ensures c.if-kind-eq32.true

pub returns : goal.returns
returns c = stored_second _ _ c.cell_kind-kind.ensures c.if-kind-eq32.false
