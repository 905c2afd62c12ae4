-- `score_sheets::parts::put_scores` meets its contract. Assumes nothing.
use Rattle.score_sheets.proofs.PartLaws.{rows_out}
use native.Mathlib.Omega.{arith}
use Rattle.score_sheets.proofs.parts.put_scores.Goals as goal

pub returns-then-room-at : goal.returns-then-room-at
returns-then-room-at c = rows_out _ _ _ _ _ _ _ (omega arith)

pub returns-then-room-at-2 : goal.returns-then-room-at-2
returns-then-room-at-2 c = rows_out _ _ _ _ _ _ _ (omega arith)
