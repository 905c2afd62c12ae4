-- `deeds::grade_of` meets its contract. Assumes nothing.
use Rattle.deeds.proofs.DeedLaws.{grade_certain, grade_doubtful, grade_unread}
use native.Mathlib.Omega.{arith}
use Rattle.deeds.proofs.grade_of.Goals as goal

pub returns-then-t : goal.returns-then-t
returns-then-t c = grade_certain _ _ (omega arith) c.if-t.true

pub returns-then-t-eq0 : goal.returns-then-t-eq0
returns-then-t-eq0 c = grade_doubtful _ _ (omega arith) c.if-t.false

pub returns : goal.returns
returns c = grade_unread _ _ (omega arith)
