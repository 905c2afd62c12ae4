-- `sheets::sheet_accepted` meets its contract. Assumes nothing.
use mathlib.Core.Path.{refl, sym, ◌∙◌}
use Rattle.sheets.proofs.SheetLaws.{out_refused}
use Rattle.sheets.proofs.sheet_accepted.Goals as goal

pub put_sheet-requires : goal.put_sheet-requires
put_sheet-requires c = (c.requires, sym c.judged.ensures ∙ c.in-Ok.is)

pub returns-in-Err-clause-answer : goal.returns-in-Err-clause-answer
returns-in-Err-clause-answer c = out_refused _ _ _ c.requires _ (sym c.judged.ensures ∙ c.in-Err.is)

pub returns-in-Err-clause-buffer : goal.returns-in-Err-clause-buffer
returns-in-Err-clause-buffer c = refl
