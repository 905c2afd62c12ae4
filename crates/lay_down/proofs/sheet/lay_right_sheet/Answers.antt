-- `lay_down::sheet::lay_right_sheet` meets its contract. Assumes nothing.
use mathlib.Core.Path.{refl}
use Rattle.lay_down.proofs.SheetWriting.{sheet_timeless}
use borrow.Author.Rules.{rules}
use native.Mathlib.Omega.{arith}
use Rattle.lay_down.proofs.sheet.lay_right_sheet.Goals as goal

pub returns-then-time-eq0 : goal.returns-then-time-eq0
returns-then-time-eq0 c = let p = c.requires in record { answer = sheet_timeless _ _ _ _ p.0 p.1.0 p.1.1 c.if-time-eq0.true; buffer = search rules }

pub lay_kept-requires-clause-fits : goal.lay_kept-requires-clause-fits
lay_kept-requires-clause-fits c = c.requires

pub lay_kept-requires-clause-list : goal.lay_kept-requires-clause-list
lay_kept-requires-clause-list c = (omega arith, refl)
