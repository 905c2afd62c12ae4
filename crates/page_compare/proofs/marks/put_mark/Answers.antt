-- `page_compare::marks::put_mark` meets its contract. Assumes nothing.

use Rattle.page_compare.proofs.marks.put_mark.Goals as goal

pub returns : goal.returns
returns c = rw c.mark_of.ensures
