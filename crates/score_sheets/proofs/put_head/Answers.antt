-- `score_sheets::put_head` meets its contract. Assumes nothing.
use Rattle.score_sheets.proofs.SheetLaws.{head_out, head_put}
use native.Mathlib.Omega.{arith}
use Rattle.score_sheets.proofs.put_head.Goals as goal

pub returns-then-out-lt9 : goal.returns-then-out-lt9
returns-then-out-lt9 c = head_out _ _ _ c.if-out-lt9.true

pub returns : goal.returns
returns c = head_put _ _ _ _ _ _ _ c.put_u32.ensures c.put_byte.ensures c.put_u16.ensures c.put_u16-2.ensures (omega arith)
