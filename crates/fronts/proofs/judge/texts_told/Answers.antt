-- `fronts::judge::texts_told` meets its contract. Assumes nothing.
use native.Mathlib.Omega.{arith}
use Rattle.fronts.proofs.CountLaws.{summed_less, text_most}
use Rattle.fronts.proofs.JudgeLaws.{label_not, description_not, texts_last}
use Rattle.fronts.proofs.judge.texts_told.Goals as goal

pub texts_before-requires : goal.texts_before-requires
texts_before-requires c = summed_less _ _ _ c.requires (omega arith)

pub overflow_add-label : goal.overflow_add-label
overflow_add-label c = omega (arith, text_most _ _ _ _ c.requires (omega arith) c.texts_before.ensures)

pub overflow_add-description : goal.overflow_add-description
overflow_add-description c = omega (arith, text_most _ _ _ _ c.requires (omega arith) c.texts_before.ensures)

pub overflow_add-unit : goal.overflow_add-unit
overflow_add-unit c = omega (arith, text_most _ _ _ _ c.requires (omega arith) c.texts_before.ensures)

pub returns-then-is_utf8-2 : goal.returns-then-is_utf8-2
returns-then-is_utf8-2 c = texts_last _ _ _ _ c.numbers_at-x.ensures _ c.texts_before.ensures _ _ _ _ _ _ c.part_of.ensures.holds c.is_utf8.ensures c.if-is_utf8.true c.part_of-then-is_utf8.ensures.holds c.is_utf8-then-is_utf8.ensures c.if-is_utf8-2.true c.part_of-then-is_utf8-2.ensures.holds c.is_utf8-then-is_utf8-2.ensures

pub returns-else-is_utf8-2 : goal.returns-else-is_utf8-2
returns-else-is_utf8-2 c = description_not _ _ _ _ c.numbers_at-x.ensures _ c.texts_before.ensures _ _ c.part_of-then-is_utf8.ensures.holds c.is_utf8-then-is_utf8.ensures c.if-is_utf8-2.false

pub returns-else-is_utf8 : goal.returns-else-is_utf8
returns-else-is_utf8 c = label_not _ _ _ _ c.numbers_at-x.ensures _ c.texts_before.ensures _ _ c.part_of.ensures.holds c.is_utf8.ensures c.if-is_utf8.false
