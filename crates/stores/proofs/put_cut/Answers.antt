-- `stores::put_cut` meets its contract. Assumes nothing.
use mathlib.Core.Path.{refl}
use Rattle.stores.proofs.WriteLaws.{one_left, one_holds}
use Rattle.stores.proofs.put_cut.Goals as goal

pub returns-clause-left : goal.returns-clause-left
returns-clause-left c = one_left _ _ _ _ _ refl c.difference.ensures

pub returns-clause-holds : goal.returns-clause-holds
returns-clause-holds c = one_holds _ _ _ _ c.first_of.ensures c.put_bytes.ensures
