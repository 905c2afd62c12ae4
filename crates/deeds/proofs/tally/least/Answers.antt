-- `deeds::tally::least` meets its contract. Assumes nothing.
use borrow.Author.Rules.{rules}
use Rattle.deeds.proofs.ScoreLaws.{least_first, least_second}
use Rattle.deeds.proofs.tally.least.Goals as goal

pub returns-then-x-y : goal.returns-then-x-y
returns-then-x-y c = least_first c.args.x c.args.y (search rules) (search rules) c.if-x-y.true

pub returns : goal.returns
returns c = least_second c.args.x c.args.y (search rules) (search rules) c.if-x-y.false
