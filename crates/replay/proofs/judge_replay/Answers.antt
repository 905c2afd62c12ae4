-- `replay::judge_replay` meets its contract. Assumes nothing.
use native.Mathlib.Omega.{arith}
use Rattle.replay.proofs.LogLaws.{judged_past, judged_closed, judged_wrong, judged_right}
use Rattle.replay.proofs.judge_replay.Goals as goal

pub returns-then-buf-n : goal.returns-then-buf-n
returns-then-buf-n c = judged_past _ _ _ (omega arith)

pub returns-then-log_right : goal.returns-then-log_right
returns-then-log_right c = judged_right _ _ _ (omega arith) c.part_of-s.ensures.holds c.is_open.ensures c.if-is_open.true c.tile_count.ensures c.tile_bytes.ensures c.log_right.ensures c.if-log_right.true

pub returns-then-is_open : goal.returns-then-is_open
returns-then-is_open c = judged_wrong _ _ _ (omega arith) c.part_of-s.ensures.holds c.is_open.ensures c.if-is_open.true c.tile_count.ensures c.tile_bytes.ensures c.log_right.ensures c.if-log_right.false

pub returns : goal.returns
returns c = judged_closed _ _ _ (omega arith) c.part_of-s.ensures.holds c.is_open.ensures c.if-is_open.false
