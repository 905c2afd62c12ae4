-- `squeeze::moving::move_down_cut` meets its contract. Assumes nothing.
use native.Mathlib.Omega.{arith}
use Rattle.wire.proofs.ByteLaws.{part_length}
use Rattle.stores.proofs.WriteLaws.{one_left, one_holds}
use Rattle.squeeze.proofs.MoveLaws.{part_first, part_all}
use Rattle.squeeze.proofs.moving.move_down_cut.Goals as goal

pub returns-then-k-n-clause-left : goal.returns-then-k-n-clause-left
returns-then-k-n-clause-left c = one_left _ _ _ _ _ (part_length _ _ _ (omega arith)) (omega arith)

pub returns-then-k-n-clause-holds : goal.returns-then-k-n-clause-holds
returns-then-k-n-clause-holds c = one_holds _ _ _ _ (part_first _ _ _ _ (omega arith) (omega arith)) c.slide.ensures

pub returns-clause-left : goal.returns-clause-left
returns-clause-left c = one_left _ _ _ _ _ (part_length _ _ _ (omega arith)) (omega arith)

pub returns-clause-holds : goal.returns-clause-holds
returns-clause-holds c = one_holds _ _ _ _ (part_all _ _ _ _ (omega arith) (omega arith)) c.slide-2.ensures
