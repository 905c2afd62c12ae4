-- `lay_down::sheet::lay_sheet` meets its contract. Assumes nothing.
use mathlib.Core.Path.{sym, ◌∙◌}
use Rattle.lay_down.proofs.SheetWriting.{sheet_bad, sheet_unfit}
use Rattle.lay_down.proofs.sheet.lay_sheet.Goals as goal

pub lay_right_sheet-requires : goal.lay_right_sheet-requires
lay_right_sheet-requires c = (c.requires, (sym c.sheet_right.ensures ∙ c.if-sheet_right.true, sym c.front_fits.ensures ∙ c.if-front_fits.true))

pub returns-then-sheet_right-clause-answer : goal.returns-then-sheet_right-clause-answer
returns-then-sheet_right-clause-answer c = sheet_unfit _ _ _ _ c.requires _ _ c.sheet_right.ensures c.if-sheet_right.true c.front_fits.ensures c.if-front_fits.false

pub returns-clause-answer : goal.returns-clause-answer
returns-clause-answer c = sheet_bad _ _ _ _ c.requires _ c.sheet_right.ensures c.if-sheet_right.false
