-- `stores::put_zeros_cut` meets its contract. Assumes nothing.
use native.Mathlib.Omega.{arith}
use Rattle.wire.proofs.ByteLaws.{zeros_length}
use Rattle.stores.proofs.WriteLaws.{one_left, one_holds, zeros_some, zeros_whole}
use Rattle.stores.proofs.put_zeros_cut.Goals as goal

pub returns-then-k-n-clause-left : goal.returns-then-k-n-clause-left
returns-then-k-n-clause-left c = one_left _ _ _ _ _ (zeros_length _) (omega arith)

pub returns-then-k-n-clause-holds : goal.returns-then-k-n-clause-holds
returns-then-k-n-clause-holds c = one_holds _ _ _ _ (zeros_some _ _ (omega arith)) c.put_zeros.ensures

pub returns-clause-left : goal.returns-clause-left
returns-clause-left c = one_left _ _ _ _ _ (zeros_length _) (omega arith)

pub returns-clause-holds : goal.returns-clause-holds
returns-clause-holds c = one_holds _ _ _ _ (zeros_whole _ _ (omega arith)) c.put_zeros-2.ensures
