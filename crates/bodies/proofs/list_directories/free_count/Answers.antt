-- `bodies::list_directories::free_count` meets its contract. Assumes nothing.
use mathlib.Core.Path.{ap, ◌∙◌}
use Rattle.bodies.specs.ListDirectories.{entry_count, free_count}
use Rattle.bodies.proofs.list_directories.free_count.Goals as goal

pub returns : goal.returns
unfolding free_count
returns c = c.entry_count.ensures ∙ ap (entry_count _) c.file_space_reference.ensures
