-- `deeds::tally::high_rank` meets its contract. Assumes nothing.
use Rattle.deeds.proofs.RunLaws.{high_none, high_some}
use Rattle.deeds.proofs.tally.high_rank.Goals as goal

pub returns-then-b-eq65535 : goal.returns-then-b-eq65535
returns-then-b-eq65535 c = high_none _ c.if-b-eq65535.true

pub returns : goal.returns
returns c = high_some _ _ c.if-b-eq65535.false c.rank_of.ensures.is
