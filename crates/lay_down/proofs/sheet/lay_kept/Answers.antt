-- `lay_down::sheet::lay_kept` meets its contract. Assumes nothing.
use mathlib.Core.Path.{sym}
use lib.Seq.{length-take-le}
use Rattle.lay_down.proofs.FrontLaws.{front_of_lem}
use Rattle.lay_down.proofs.JudgeLaws.{length_is}
use Rattle.lay_down.proofs.SheetLaws.{fits_of, kept_few}
use Rattle.lay_down.proofs.SheetWriting.{sheet_passed, sheet_refused, sheet_done}
use Rattle.lay_down.proofs.sheet.lay_kept.Goals as goal

pub kept_tiles-n-requires : goal.kept_tiles-n-requires
kept_tiles-n-requires c = (c.requires.fits.0, c.requires.list.1)

pub slice_bounds-kept-end : goal.slice_bounds-kept-end
slice_bounds-kept-end c = c.kept_tiles-n.ensures.few.1

pub slice_bounds-kept-end-2 : goal.slice_bounds-kept-end-2
slice_bounds-kept-end-2 c = sym (length-take-le _ _ c.kept_tiles-n.ensures.few.1)

pub length_verdict-requires : goal.length_verdict-requires
length_verdict-requires c = (c.requires.fits.0, kept_few _ _ _ c.kept_tiles-n.ensures.list (front_of_lem _ c.requires.fits.0))

pub put_sheet-requires-clause-passes : goal.put_sheet-requires-clause-passes
put_sheet-requires-clause-passes c = sheet_passed _ _ _ c.args.file.now _ c.requires.fits.0 c.requires.fits.1.0 c.requires.fits.1.1 c.requires.list.0 c.kept_tiles-n.ensures.list _ c.length_verdict.ensures c.in-Ok.is

pub put_sheet-requires-clause-kept : goal.put_sheet-requires-clause-kept
put_sheet-requires-clause-kept c = (c.kept_tiles-n.ensures.list, (fits_of _ _ c.requires.fits.1.1).element)

pub file_length-requires : goal.file_length-requires
file_length-requires c = (c.requires.fits.0, kept_few _ _ _ c.kept_tiles-n.ensures.list (front_of_lem _ c.requires.fits.0))

pub returns-in-Err-clause-answer : goal.returns-in-Err-clause-answer
returns-in-Err-clause-answer c = sheet_refused _ _ _ c.args.file.now _ c.requires.fits.0 c.requires.fits.1.0 c.requires.fits.1.1 c.requires.list.0 c.kept_tiles-n.ensures.list _ c.length_verdict.ensures _ c.in-Err.is

pub returns-in-Ok : goal.returns-in-Ok
returns-in-Ok c = let all_of = sheet_done _ _ _ _ _ c.requires.fits.0 c.requires.fits.1.0 c.requires.fits.1.1 c.requires.list.0 c.kept_tiles-n.ensures.list _ c.length_verdict.ensures _ _ c.in-Ok.is (length_is _ _ _ c.file_length.ensures) c.put_sheet.ensures in record { answer = all_of.0; buffer = all_of.1 }
