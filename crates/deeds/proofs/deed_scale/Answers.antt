-- `deeds::deed_scale` meets its contract. Assumes nothing.
use Rattle.deeds.proofs.ScoreLaws.{scale_of}
use borrow.Author.Rules.{rules}
use Rattle.deeds.proofs.deed_scale.Goals as goal

pub returns-in-Ok : goal.returns-in-Ok
returns-in-Ok c = scale_of _ _ _ c.in-Ok.is (search rules) c.bits_16.ensures
