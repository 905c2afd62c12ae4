-- `deeds::tally::of_run` meets its contract. Assumes nothing.
use Rattle.deeds.proofs.RunLaws.{run_is}
use borrow.Author.Rules.{rules}
use Rattle.deeds.proofs.tally.of_run.Goals as goal

pub returns : goal.returns
returns c = search (rules, run_is)
