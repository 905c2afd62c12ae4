-- `explain::records::summed_of` meets its contract. Assumes nothing.
use borrow.Author.Rules.{rules}
use Rattle.check_records.proofs.RecordLaws.{summed_free, summed_other}
use Rattle.record_reasons.proofs.records.summed_of.Goals as goal

pub returns-then-kind-eq-FREE : goal.returns-then-kind-eq-FREE
returns-then-kind-eq-FREE c = search (rules, summed_free)

pub returns : goal.returns
returns c = search (rules, summed_other)
