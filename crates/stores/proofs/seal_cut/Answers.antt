-- `stores::seal_cut` meets its contract. Assumes nothing.
use native.Mathlib.Omega.{arith}
use Rattle.stores.proofs.WriteLaws.{seal_left, seal_holds, seal_out_left, seal_out_holds}
use Rattle.stores.proofs.seal_cut.Goals as goal

pub returns-then-room-m-clause-left : goal.returns-then-room-m-clause-left
returns-then-room-m-clause-left c = seal_out_left _ _ _ _ _ _ c.difference.ensures

pub returns-then-room-m-clause-holds : goal.returns-then-room-m-clause-holds
returns-then-room-m-clause-holds c = seal_out_holds _ _ _ _ _ _ c.difference-m.ensures (omega arith)

pub returns-then-room-m-2-clause-left : goal.returns-then-room-m-2-clause-left
returns-then-room-m-2-clause-left c = seal_out_left _ _ _ _ _ _ c.difference-then-room-m-2.ensures

pub returns-then-room-m-2-clause-holds : goal.returns-then-room-m-2-clause-holds
returns-then-room-m-2-clause-holds c = seal_out_holds _ _ _ _ _ _ c.difference-m.ensures (omega arith)

pub returns-clause-left : goal.returns-clause-left
returns-clause-left c = seal_left _ _ _ _ _ _ _ _ c.difference-m.ensures c.checksum_for-sum.ensures c.put_u32_cut.ensures.left

pub returns-clause-holds : goal.returns-clause-holds
returns-clause-holds c = seal_holds _ _ _ _ _ _ _ _ c.difference-m.ensures c.checksum_for-sum.ensures c.put_u32_cut.ensures.holds
