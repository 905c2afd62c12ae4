-- `sheets::judged` meets its contract. Assumes nothing.
use mathlib.Core.Path.{sym, ◌∙◌}
use Rattle.sheets.proofs.GridLaws.{whole_accepts, sides_few, scores_there, one_there, weighed_few, judged_by_lem, judged_not}
use Rattle.sheets.proofs.judged.Goals as goal

pub weigh_all-w-requires : goal.weigh_all-w-requires
weigh_all-w-requires c = let t = sym c.sheetable.ensures ∙ c.if-sheetable.true in record { accepts = whole_accepts _ _ c.whole-a.ensures t c.requires; sides = (sides_few _ _ c.whole-a.ensures t, scores_there _ _ c.whole-a.ensures t) }

pub fault_at-requires : goal.fault_at-requires
fault_at-requires c = let t = sym c.sheetable.ensures ∙ c.if-sheetable.true in record { accepts = (c.requires, (c.whole-a.ensures, one_there _ _ c.whole-a.ensures t)); weight = (sides_few _ _ c.whole-a.ensures t, weighed_few _ _ _ _ c.weigh_all-w.ensures) }

pub returns-then-sheetable : goal.returns-then-sheetable
returns-then-sheetable c = judged_by_lem _ _ _ c.sheetable.ensures c.if-sheetable.true _ _ _ c.whole-a.ensures c.weigh_all-w.ensures c.fault_at.ensures

pub returns : goal.returns
returns c = judged_not _ _ _ c.sheetable.ensures c.if-sheetable.false
