-- `deeds::tally::one_if` meets its contract. Assumes nothing.
use Rattle.deeds.proofs.RunLaws.{one_yes, one_no}
use Rattle.deeds.proofs.tally.one_if.Goals as goal

pub returns-then-a-b-clause-is : goal.returns-then-a-b-clause-is
returns-then-a-b-clause-is c = one_yes c.args.a c.args.b c.if-a-b.true

pub returns-clause-is : goal.returns-clause-is
returns-clause-is c = one_no c.args.a c.args.b c.if-a-b.false
