-- `sheets::sheet_of` meets its contract. Assumes nothing.
use mathlib.Core.Path.{refl, sym, ◌∙◌}
use Rattle.sheets.proofs.SheetLaws.{out_unchecked}
use Rattle.sheets.proofs.sheet_of.Goals as goal

pub sheet_accepted-requires : goal.sheet_accepted-requires
sheet_accepted-requires c = sym c.check.ensures ∙ c.in-Ok.is

pub returns-in-Err-clause-answer : goal.returns-in-Err-clause-answer
returns-in-Err-clause-answer c = out_unchecked _ _ _ _ (sym c.check.ensures ∙ c.in-Err.is)

pub returns-in-Err-clause-buffer : goal.returns-in-Err-clause-buffer
returns-in-Err-clause-buffer c = refl
