-- `correction_logs::entry_whole` meets its contract. Assumes nothing.
use native.Mathlib.Omega.{arith}
use Rattle.correction_logs.proofs.LogLaws.{whole_short, whole_cut, whole_kind, whole_store, whole_remove}
use Rattle.correction_logs.proofs.entry_whole.Goals as goal

pub returns-then-room-lt5 : goal.returns-then-room-lt5
returns-then-room-lt5 c = whole_short _ _ _ (omega arith)

pub returns-then-room-long : goal.returns-then-room-long
returns-then-room-long c = whole_cut _ _ _ _ c.byte_at-kind.ensures.is (omega arith) (omega arith)

pub returns-then-kind-eq1 : goal.returns-then-kind-eq1
returns-then-kind-eq1 c = whole_store _ _ _ _ c.byte_at-kind.ensures.is (omega arith) (omega arith)

pub returns-then-kind-ne2 : goal.returns-then-kind-ne2
returns-then-kind-ne2 c = whole_kind _ _ _ _ c.byte_at-kind.ensures.is (λ z. omega arith) (λ z. omega arith)

pub returns : goal.returns
returns c = whole_remove _ _ _ _ c.byte_at-kind.ensures.is (λ z. omega arith) (omega arith) (omega arith)
