-- `lay_down::sheet::lay_down_sheet` meets its contract. Assumes nothing.
use mathlib.Core.Path.{sym, ◌∙◌}
use Rattle.lay_down.proofs.SheetWriting.{sheet_front}
use Rattle.lay_down.proofs.sheet.lay_down_sheet.Goals as goal

pub lay_sheet-requires : goal.lay_sheet-requires
lay_sheet-requires c = sym c.check_front.ensures ∙ c.in-Ok.is

pub returns-in-Err-clause-answer : goal.returns-in-Err-clause-answer
returns-in-Err-clause-answer c = sheet_front _ _ _ _ _ _ c.check_front.ensures c.in-Err.is
