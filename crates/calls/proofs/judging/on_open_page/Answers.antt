-- `calls::judging::on_open_page` meets its contract. Assumes nothing.
use native.Mathlib.Omega.{arith}
use Rattle.calls.proofs.JudgeLaws.{open_past, open_yes, open_not}
use Rattle.calls.proofs.judging.on_open_page.Goals as goal

pub returns-then-buf-n : goal.returns-then-buf-n
returns-then-buf-n c = open_past _ _ _ (omega arith)

pub returns-then-is_open : goal.returns-then-is_open
returns-then-is_open c = open_yes _ _ (omega arith) c.part_of.ensures.holds c.is_open.ensures c.if-is_open.true

pub returns : goal.returns
returns c = open_not _ _ (omega arith) c.part_of.ensures.holds c.is_open.ensures c.if-is_open.false
