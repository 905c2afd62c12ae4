-- `reasons::places::methods_from` meets its contract. Assumes nothing.
use mathlib.Core.Path.{ap, ◌∙◌}
use Rattle.header.specs.Element.{entry_start}
use Rattle.header.specs.Tail.{methods_at}
use Rattle.reasons.proofs.places.methods_from.Goals as goal

pub returns : goal.returns
unfolding methods_at
returns c = c.entry_start.ensures.is ∙ ap (entry_start _) c.element_count.ensures
