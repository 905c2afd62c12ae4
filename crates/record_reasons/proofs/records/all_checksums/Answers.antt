-- `explain::records::all_checksums` meets its contract. Assumes nothing.
use borrow.Author.Rules.{rules}
use Rattle.record_reasons.proofs.LoopLaws.{header_broken, header_kept}
use Rattle.record_reasons.proofs.records.all_checksums.Goals as goal

pub returns-in_err-refused_by : goal.returns-in_err-refused_by
returns-in_err-refused_by c = search (rules, header_broken)

pub returns : goal.returns
returns c = search (rules, header_kept)
