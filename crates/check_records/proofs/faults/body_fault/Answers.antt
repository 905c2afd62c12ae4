-- `check_records::faults::body_fault` meets its contract. Assumes nothing.
use borrow.Author.Rules.{rules}
use Rattle.check_records.specs.Faults.{body_fault}
use Rattle.check_records.proofs.faults.body_fault.Goals as goal

pub returns : goal.returns
unfolding body_fault
returns c = search rules
