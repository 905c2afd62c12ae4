-- `lay_down::page::length_verdict` meets its contract. Assumes nothing.
use Rattle.lay_down.proofs.JudgeLaws.{length_is, judged_ceiling, judged_room, judged_done}
use native.Mathlib.Omega.{arith}
use Rattle.lay_down.proofs.page.length_verdict.Goals as goal

pub returns-then-n-gt-MOST_FILE_BYTES : goal.returns-then-n-gt-MOST_FILE_BYTES
returns-then-n-gt-MOST_FILE_BYTES c = judged_ceiling _ _ _ _ (length_is _ _ _ c.file_length-n.ensures) (omega arith)

pub returns-then-room-n : goal.returns-then-room-n
returns-then-room-n c = judged_room _ _ _ _ (length_is _ _ _ c.file_length-n.ensures) (omega arith) (omega arith)

pub returns : goal.returns
returns c = judged_done _ _ _ _ (length_is _ _ _ c.file_length-n.ensures) (omega arith) (omega arith)
