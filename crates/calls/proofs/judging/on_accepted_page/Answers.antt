-- `calls::judging::on_accepted_page` meets its contract. Assumes nothing.
use native.Mathlib.Omega.{arith}
use Rattle.calls.proofs.JudgeLaws.{accepted_past, check_told}
use Rattle.calls.proofs.judging.on_accepted_page.Goals as goal

pub returns-then-buf-n : goal.returns-then-buf-n
returns-then-buf-n c = accepted_past _ _ _ (omega arith)

pub returns : goal.returns
returns c = check_told _ _ (omega arith) c.part_of.ensures.holds c.check.ensures
