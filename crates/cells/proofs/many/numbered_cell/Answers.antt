-- `cells::many::numbered_cell` meets its contract. Assumes nothing.
use borrow.Author.Rules.{rules}
use Rattle.answer.proofs.VerdictLaws.{arm_of}
use Rattle.cells.proofs.ManyLaws.{numbered_stored, numbered_unpacked, numbered_absent, numbered_alone, numbered_refused}
use Rattle.cells.proofs.many.numbered_cell.Goals as goal

pub returns-in_err-at : goal.returns-in_err-at
returns-in_err-at c = search (rules, numbered_refused)

pub returns-in-Stored : goal.returns-in-Stored
returns-in-Stored c = numbered_stored _ _ _ _ _ _ _ _ (arm_of c.in_ok-at.was c.in-Stored.is) c.stored_from.ensures

pub returns-in-Unpacked : goal.returns-in-Unpacked
returns-in-Unpacked c = numbered_unpacked _ _ _ _ _ _ _ _ _ (arm_of c.in_ok-at.was c.in-Unpacked.is) c.number_in.ensures c.value_of.ensures

pub returns-in-Absent : goal.returns-in-Absent
returns-in-Absent c = numbered_absent _ _ _ _ _ _ _ _ (arm_of c.in_ok-at.was c.in-Absent.is) c.value_of-in-Absent.ensures

pub returns-in-Alone : goal.returns-in-Alone
returns-in-Alone c = numbered_alone _ _ _ _ _ _ _ (arm_of c.in_ok-at.was c.in-Alone.is)
