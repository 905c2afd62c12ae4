-- `store::description::kind_of` meets its contract. Assumes nothing.
use mathlib.Core.Path.{ap}
use Rattle.header.specs.declared.Element.{Element}
use Rattle.store.proofs.description.kind_of.Goals as goal

pub returns : goal.returns
returns c = ap (λ (x : Element). x.kind) c.element-x.ensures
