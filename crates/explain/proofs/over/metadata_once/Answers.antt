-- `explain::over::metadata_once` meets its contract. Assumes nothing.
use mathlib.Core.Path.{refl}
use Rattle.check_lists.specs.inner.Search.{listed_kind, list_count, list_fits, list_entry_is}
use Rattle.explain.proofs.over.metadata_once.Goals as goal

pub once-requires : goal.once-requires
unfolding listed_kind list_count list_fits list_entry_is
once-requires c = (c.requires, refl)

pub returns : goal.returns
unfolding listed_kind list_count list_fits list_entry_is
returns c = c.once.ensures
