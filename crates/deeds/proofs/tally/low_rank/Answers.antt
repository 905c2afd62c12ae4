-- `deeds::tally::low_rank` meets its contract. Assumes nothing.
use Rattle.deeds.proofs.RunLaws.{low_none, low_some}
use Rattle.deeds.proofs.tally.low_rank.Goals as goal

pub returns-then-b-eq65535 : goal.returns-then-b-eq65535
returns-then-b-eq65535 c = low_none _ c.if-b-eq65535.true

pub returns : goal.returns
returns c = low_some _ _ c.if-b-eq65535.false c.rank_of.ensures.is
