-- `deeds::tally::join` meets its contract. Assumes nothing.
use Rattle.deeds.proofs.TallyLaws.{tally_joined}
use Rattle.deeds.proofs.tally.join.Goals as goal

pub returns : goal.returns
returns c = tally_joined _ _ _ _ c.both.ensures c.lesser.ensures
