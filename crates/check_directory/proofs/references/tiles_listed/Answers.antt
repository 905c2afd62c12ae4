-- `check_directory::references::tiles_listed` meets its contract. Assumes nothing.
use mathlib.Core.Path.{ap, ◌∙◌}
use mathlib.Core.Bool.{not}
use Rattle.check_directory.proofs.SearchLaws.{was_none, was_some, listed_is}
use Rattle.check_directory.proofs.references.tiles_listed.Goals as goal

pub returns-in-None : goal.returns-in-None
returns-in-None c = ap not (was_none c.in-None.is) ∙ listed_is _ _ (rw c.header_end.ensures at c.find-unlisted.ensures)

pub returns-in_default : goal.returns-in_default
returns-in_default c = ap not (was_some _ c.in_default.not-None) ∙ listed_is _ _ (rw c.header_end.ensures at c.find-unlisted.ensures)
