-- `cells::tile_cells::kind_of` meets its contract. Assumes nothing.
use mathlib.Core.Path.{ap, ◌∙◌}
use Rattle.wire.specs.Bytes.{byte_at}
use Rattle.header.specs.Element.{entry_at, element}
use Rattle.cells.proofs.tile_cells.kind_of.Goals as goal

pub returns : goal.returns
unfolding entry_at element
returns c = c.byte_at.ensures.is ∙ ap (byte_at _) c.entry_start.ensures.is
