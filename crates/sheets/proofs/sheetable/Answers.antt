-- `sheets::sheetable` meets its contract. Assumes nothing.
use Rattle.sheets.proofs.GridLaws.{too_tall, too_wide, too_long_lem, other_rule, first_rule_lem, sides_small}
use native.Mathlib.Omega.{arith}
use Rattle.sheets.proofs.sheetable.Goals as goal

pub returns-then-a-gt65535 : goal.returns-then-a-gt65535
returns-then-a-gt65535 c = too_tall _ _ c.whole-a.ensures (omega arith)

pub returns-then-a-gt65535-2 : goal.returns-then-a-gt65535-2
returns-then-a-gt65535-2 c = too_wide _ _ c.whole-a.ensures (omega arith)

pub overflow_mul-a : goal.overflow_mul-a
overflow_mul-a c = record { fits = omega (arith, sides_small c.whole-a.result.rows c.whole-a.result.columns (omega arith) (omega arith)) }

pub overflow_mul-a-2 : goal.overflow_mul-a-2
overflow_mul-a-2 c = record { fits = omega (arith, sides_small c.whole-a.result.rows c.whole-a.result.columns (omega arith) (omega arith)) }

pub overflow_add-a : goal.overflow_add-a
overflow_add-a c = record { fits = omega (arith, sides_small c.whole-a.result.rows c.whole-a.result.columns (omega arith) (omega arith)) }

pub returns-then-a-gt4294967295 : goal.returns-then-a-gt4294967295
returns-then-a-gt4294967295 c = too_long_lem _ _ c.whole-a.ensures (omega arith)

pub returns-then-is_first : goal.returns-then-is_first
returns-then-is_first c = first_rule_lem _ _ c.whole-a.ensures _ _ (c.page_says.ensures.accepted c.requires) c.is_first.ensures c.if-is_first.true _ c.score_element.ensures (omega arith) (omega arith) (omega arith)

pub returns : goal.returns
returns c = other_rule _ _ c.whole-a.ensures _ _ (c.page_says.ensures.accepted c.requires) c.is_first.ensures c.if-is_first.false
