-- `deeds::tally::lesser` meets its contract. Assumes nothing.
use borrow.Author.Rules.{rules}
use Rattle.deeds.proofs.ScoreLaws.{lesser_first, lesser_alone, lesser_both}
use Rattle.deeds.proofs.tally.lesser.Goals as goal

pub returns-in-None : goal.returns-in-None
returns-in-None c = lesser_first _ _ c.in-None.is

pub returns-in-None-b : goal.returns-in-None-b
returns-in-None-b c = lesser_alone _ _ _ c.in-Some.is c.in-None-b.is

pub returns-in-Some-b : goal.returns-in-Some-b
returns-in-Some-b c = lesser_both _ _ _ c.in-Some.is _ _ c.in-Some-b.is (search rules) (search rules) c.least.ensures
