-- `explain::ends::least_of` meets its contract. Assumes nothing.
use borrow.Author.Rules.{rules}
use Rattle.record_reasons.proofs.BodyLaws.{least_told}
use Rattle.record_reasons.proofs.ends.least_of.Goals as goal

pub returns : goal.returns
returns c = search (rules, least_told)
