-- `header::entries::entries_read` meets its contract. Assumes nothing.
use native.Mathlib.Omega.{arith}
use Rattle.header.proofs.EntryLaws.{read_all, read_some}
use Rattle.header.proofs.entries.entries_read.Goals as goal

pub returns-then-n-le-MOST_ELEMENTS-clause-is : goal.returns-then-n-le-MOST_ELEMENTS-clause-is
returns-then-n-le-MOST_ELEMENTS-clause-is c = read_all _ _ c.element_count-n.ensures (omega arith)

pub returns-clause-is : goal.returns-clause-is
returns-clause-is c = read_some _ _ c.element_count-n.ensures (omega arith)
