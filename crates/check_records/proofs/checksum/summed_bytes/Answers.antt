-- `check_records::checksum::summed_bytes` meets its contract. Assumes nothing.
use borrow.Author.Rules.{rules}
use Rattle.check_records.proofs.RecordLaws.{summed_free, summed_other}
use Rattle.check_records.proofs.checksum.summed_bytes.Goals as goal

pub returns-then-kind-eq-FREE : goal.returns-then-kind-eq-FREE
returns-then-kind-eq-FREE c = search (rules, summed_free, summed_other)

pub returns : goal.returns
returns c = search (rules, summed_free, summed_other)
