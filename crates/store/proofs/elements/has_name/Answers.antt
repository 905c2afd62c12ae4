-- `store::elements::has_name` meets its contract. Assumes nothing.
use mathlib.Core.Path.{refl}
use Rattle.store.proofs.LookupLaws.{name_is}
use Rattle.store.proofs.elements.has_name.Goals as goal

pub returns : goal.returns
returns c = name_is _ _ _ _ _ _ c.element-x.ensures refl c.same_name.ensures
