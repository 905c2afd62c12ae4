-- `edit_walks::freeing::is_due` meets its contract. Assumes nothing.
use native.Mathlib.Omega.{arith}
use Rattle.edit_walks.proofs.JoinLaws.{due_already, due_freed, due_more, due_not}
use Rattle.edit_walks.proofs.freeing.is_due.Goals as goal

pub returns-then-due : goal.returns-then-due
returns-then-due c = due_already _ _ _ _ c.if-due.true

pub returns-then-freed : goal.returns-then-freed
returns-then-freed c = due_freed _ _ _ _ c.if-due.false c.if-freed.true

pub returns-then-from-at : goal.returns-then-from-at
returns-then-from-at c = due_more _ _ _ _ c.if-due.false c.if-freed.false (omega arith)

pub returns : goal.returns
returns c = due_not _ _ _ _ c.if-due.false c.if-freed.false (omega arith)
