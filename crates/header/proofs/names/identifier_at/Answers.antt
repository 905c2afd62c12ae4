-- `header::names::identifier_at` meets its contract. Assumes nothing.
use mathlib.Core.Path.{ap, ◌∙◌}
use Rattle.header.specs.Names.{identifier}
use Rattle.header.proofs.names.identifier_at.Goals as goal

pub returns : goal.returns
returns c = c.is_identifier.ensures ∙ ap (identifier _) c.part_of.ensures.holds
