-- `bodies::list_directories::metadata_count` meets its contract. Assumes nothing.
use mathlib.Core.Path.{ap, ◌∙◌}
use Rattle.bodies.specs.ListDirectories.{entry_count, metadata_count}
use Rattle.bodies.proofs.list_directories.metadata_count.Goals as goal

pub returns : goal.returns
unfolding metadata_count
returns c = c.entry_count.ensures ∙ ap (entry_count _) c.metadata_reference.ensures
