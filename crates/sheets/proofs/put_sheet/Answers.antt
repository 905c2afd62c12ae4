-- `sheets::put_sheet` meets its contract. Assumes nothing.
use mathlib.Core.Path.{refl}
use Rattle.sheets.proofs.GridLaws.{out_sides, out_cells, out_accepts}
use Rattle.sheets.proofs.SheetLaws.{head_kept, room_behind, sheet_put, out_room, out_long}
use native.Mathlib.Omega.{arith}
use Rattle.sheets.proofs.put_sheet.Goals as goal

pub overflow_mul-n : goal.overflow_mul-n
overflow_mul-n c = record { fits = omega (arith, out_cells _ _ c.requires.1 _ c.whole-a.ensures) }

pub overflow_mul-n-2 : goal.overflow_mul-n-2
overflow_mul-n-2 c = record { fits = omega (arith, out_cells _ _ c.requires.1 _ c.whole-a.ensures) }

pub overflow_add-n : goal.overflow_add-n
overflow_add-n c = record { fits = omega (arith, out_cells _ _ c.requires.1 _ c.whole-a.ensures) }

pub returns-then-sheet-n-clause-answer : goal.returns-then-sheet-n-clause-answer
returns-then-sheet-n-clause-answer c = out_room _ _ _ c.requires.0 c.requires.1 c.whole-a.result c.whole-a.ensures (omega arith)

pub returns-then-sheet-n-clause-buffer : goal.returns-then-sheet-n-clause-buffer
returns-then-sheet-n-clause-buffer c = refl

pub overflow_cast-a : goal.overflow_cast-a
overflow_cast-a c = record { fits = omega (arith, (out_sides _ _ c.requires.1 _ c.whole-a.ensures).rows_few) }

pub overflow_cast-a-2 : goal.overflow_cast-a-2
overflow_cast-a-2 c = record { fits = omega (arith, (out_sides _ _ c.requires.1 _ c.whole-a.ensures).columns_few) }

pub slice_bounds-put_all-count : goal.slice_bounds-put_all-count
slice_bounds-put_all-count c = omega (arith, head_kept _ _ _ _ c.put_head.ensures)

pub put_all-requires-clause-accepts : goal.put_all-requires-clause-accepts
put_all-requires-clause-accepts c = out_accepts _ _ c.requires.1 _ c.whole-a.ensures c.requires.0

pub put_all-requires-clause-room : goal.put_all-requires-clause-room
put_all-requires-clause-room c = room_behind _ _ c.whole-a.result (omega arith) c.put_head.ensures (out_sides _ _ c.requires.1 _ c.whole-a.ensures)

pub returns-clause-answer : goal.returns-clause-answer
returns-clause-answer c = out_long _ _ _ c.requires.0 c.requires.1 _ c.whole-a.ensures (omega arith)

pub returns-clause-buffer : goal.returns-clause-buffer
returns-clause-buffer c = sheet_put _ _ _ _ _ _ _ c.whole-a.ensures (omega arith) c.put_head.ensures c.put_all.ensures refl
