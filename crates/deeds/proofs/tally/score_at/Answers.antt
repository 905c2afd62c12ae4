-- `deeds::tally::score_at` meets its contract. Assumes nothing.
use Rattle.deeds.proofs.RunLaws.{at_none, at_some}
use Rattle.deeds.proofs.tally.score_at.Goals as goal

pub returns-then-n-eq65536 : goal.returns-then-n-eq65536
returns-then-n-eq65536 c = at_none _ c.if-n-eq65536.true

pub returns : goal.returns
returns c = at_some _ _ _ c.if-n-eq65536.false c.rank_of.ensures.is c.signed_16.ensures
