-- `header::entries::element` meets its contract. Assumes nothing.
use mathlib.Core.Path.{ap, ◌∙◌}
use Rattle.header.specs.Element.{entry_at, element}
use Rattle.header.proofs.entries.element.Goals as goal

pub returns : goal.returns
unfolding element
returns c = c.entry_at.ensures ∙ ap (entry_at _) c.entry_start.ensures.is
