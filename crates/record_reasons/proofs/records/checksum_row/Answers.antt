-- `record_reasons::records::checksum_row` meets its contract. Assumes nothing.
use borrow.Author.Rules.{rules}
use Rattle.record_reasons.proofs.LoopLaws.{checksum_told}
use Rattle.record_reasons.proofs.records.checksum_row.Goals as goal

pub returns : goal.returns
returns c = search (rules, checksum_told)
