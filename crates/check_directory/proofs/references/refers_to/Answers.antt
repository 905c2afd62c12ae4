-- `check_directory::references::refers_to` meets its contract. Assumes nothing.
use mathlib.Core.Path.{◌∙◌}
use Rattle.check_directory.proofs.SearchLaws.{some_at, none_at, refers_is}
use Rattle.check_directory.proofs.references.refers_to.Goals as goal

pub returns-in-Some : goal.returns-in-Some
returns-in-Some c = some_at c.in-Some.is ∙ refers_is _ _ _ _ (rw c.header_end.ensures at c.find-found.ensures)

pub returns-in_default : goal.returns-in_default
returns-in_default c = none_at _ c.in_default.not-Some ∙ refers_is _ _ _ _ (rw c.header_end.ensures at c.find-found.ensures)
