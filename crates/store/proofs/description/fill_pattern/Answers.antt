-- `store::description::fill_pattern` meets its contract. Assumes nothing.
use mathlib.Core.Path.{ap}
use Rattle.header.specs.declared.Element.{Element}
use Rattle.store.proofs.description.fill_pattern.Goals as goal

pub returns : goal.returns
returns c = ap (λ (x : Element). x.fill) c.element-x.ensures
