-- `correction_logs::end_of_entry` meets its contract. Assumes nothing.
use native.Mathlib.Omega.{arith}
use Rattle.correction_logs.proofs.LogLaws.{end_short, end_cut, end_whole, end_index}
use Rattle.correction_logs.proofs.end_of_entry.Goals as goal

pub returns-then-n-at : goal.returns-then-n-at
returns-then-n-at c = end_short _ _ _ (omega arith)

pub returns-then-room-lt5 : goal.returns-then-room-lt5
returns-then-room-lt5 c = end_short _ _ _ (omega arith)

pub returns-then-room-long : goal.returns-then-room-long
returns-then-room-long c = end_cut _ _ _ c.is_store.ensures c.if-is_store.true (omega arith)

pub returns-then-is_store : goal.returns-then-is_store
returns-then-is_store c = end_whole _ _ _ c.is_store.ensures c.if-is_store.true (omega arith)

pub returns : goal.returns
returns c = end_index _ _ _ c.is_store.ensures c.if-is_store.false (omega arith)
