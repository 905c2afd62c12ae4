-- `score_sheets::head_right` meets its contract. Assumes nothing.
use Rattle.score_sheets.proofs.SheetLaws.{head_short, head_length_lem, head_version}
use native.Mathlib.Omega.{arith}
use Rattle.score_sheets.proofs.head_right.Goals as goal

pub returns-then-n-lt9 : goal.returns-then-n-lt9
returns-then-n-lt9 c = head_short c.args.sheet.now c.if-n-lt9.true

pub returns-then-u32_at-n : goal.returns-then-u32_at-n
returns-then-u32_at-n c = head_length_lem _ _ c.u32_at.ensures c.if-u32_at-n.true

pub returns : goal.returns
returns c = head_version _ _ _ (omega arith) c.u32_at.ensures c.if-u32_at-n.false c.byte_at.ensures.is
