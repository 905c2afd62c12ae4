-- `gvrs_c::start_needs` meets its contract. Assumes nothing.
use Rattle.gvrs_c.proofs.ReportLaws.{needs_yes, needs_not}
use borrow.Author.Rules.{rules}
use Rattle.gvrs_c.proofs.start_needs.Goals as goal

pub returns-then-number-eq16 : goal.returns-then-number-eq16
returns-then-number-eq16 c = search (rules, needs_yes)

pub returns : goal.returns
returns c = search (rules, needs_not)
