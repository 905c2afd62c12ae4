-- `record::Cursor::step` meets its contract. Assumes nothing.
use native.Mathlib.Omega.{arith}
use Rattle.record.proofs.ChainLaws.{step_end, step_record, step_bad}
use Rattle.record.proofs.Cursor.step.Goals as goal

pub returns-then-s-at : goal.returns-then-s-at
returns-then-s-at c = step_end _ _ (omega arith)

pub returns-then-record_ok : goal.returns-then-record_ok
returns-then-record_ok c = step_record _ _ _ _ (omega arith) (cc) (omega arith) (omega arith)

pub returns-else-record_ok : goal.returns-else-record_ok
returns-else-record_ok c = step_bad _ _ (omega arith) (cc)
