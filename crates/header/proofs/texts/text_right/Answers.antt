-- `header::texts::text_right` meets its contract. Assumes nothing.
use native.Mathlib.Omega.{arith}
use Rattle.header.proofs.TextLaws.{text_past, text_judged}
use Rattle.header.proofs.texts.text_right.Goals as goal

pub returns-then-s-at : goal.returns-then-s-at
returns-then-s-at c = text_past _ _ (omega arith)

pub returns : goal.returns
returns c = text_judged _ _ _ _ _ (omega arith) c.part_of.ensures.holds c.is_utf8.ensures
