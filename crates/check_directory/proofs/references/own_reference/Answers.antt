-- `check_directory::references::own_reference` meets its contract. Assumes nothing.
use mathlib.Core.Path.{ap, ◌∙◌}
use Rattle.bodies.specs.TileDirectory.{tile_reference}
use Rattle.bodies.specs.TileRecord.{tile_index}
use Rattle.check_directory.proofs.references.own_reference.Goals as goal

pub returns : goal.returns
unfolding tile_index
returns c = c.tile_reference.ensures ∙ ap (tile_reference _) c.u32_off.ensures
