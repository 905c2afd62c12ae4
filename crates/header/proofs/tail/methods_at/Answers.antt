-- `header::tail::methods_at` meets its contract. Assumes nothing.
use native.Mathlib.Omega.{arith}
use mathlib.Core.Path.{ap, ◌∙◌}
use Rattle.header.specs.Element.{entry_start}
use Rattle.header.specs.Tail.{methods_at}
use Rattle.header.proofs.tail.methods_at.Goals as goal

pub returns-clause-is : goal.returns-clause-is
unfolding methods_at
returns-clause-is c = c.entry_start.ensures.is ∙ ap (entry_start _) c.element_count.ensures

pub returns-clause-near : goal.returns-clause-near
unfolding methods_at
returns-clause-near c = omega arith
