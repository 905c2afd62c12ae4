-- `page_compare::place::place_stretch` meets its contract. Assumes nothing.
use native.Mathlib.Omega.{arith}
use Rattle.row_lists.proofs.RowLaws.{row_placed, row_passed}
use Rattle.page_compare.specs.Sides.{area_differ, area_tiling, row_tiling, marked}
use Rattle.page_compare.proofs.MarkLaws.{marks_say}
use Rattle.page_compare.proofs.PlaceLaws.{row_sides, row_small, row_tiled}
use Rattle.page_compare.proofs.place.place_stretch.Goals as goal

pub returns-then-end-k : goal.returns-then-end-k
returns-then-end-k c = let all_of = row_passed (area_tiling _ _) (area_differ _ _ _ _) _ _ _ _ _ _ _ c.requires.next.0 (omega (arith, c.requires.at.sides)) _ c.requires.at.sides.1.1.1 c.requires.next.1 c.if-end-k.true in record { next = all_of.0; list = all_of.1 }

pub mark_row-requires-clause-both : goal.mark_row-requires-clause-both
mark_row-requires-clause-both c = c.requires.both

pub mark_row-requires-clause-at : goal.mark_row-requires-clause-at
mark_row-requires-clause-at c = c.requires.at

pub mark_row-requires-clause-row : goal.mark_row-requires-clause-row
mark_row-requires-clause-row c = c.requires.row

pub mark_row-requires-clause-room : goal.mark_row-requires-clause-room
mark_row-requires-clause-room c = c.requires.room

pub mark_row-requires-clause-ready : goal.mark_row-requires-clause-ready
mark_row-requires-clause-ready c = c.requires.ready

pub place_row-requires-clause-r_bound : goal.place_row-requires-clause-r_bound
place_row-requires-clause-r_bound c = row_sides _ _ _ _ _ _ c.requires.both c.requires.at c.requires.row.0.1

pub place_row-requires-clause-marks : goal.place_row-requires-clause-marks
place_row-requires-clause-marks c = omega (arith, c.mark_row.ensures.long, c.requires.room)

pub place_row-requires-clause-small : goal.place_row-requires-clause-small
place_row-requires-clause-small c = row_small _ _ _ _ _ c.requires.both.first c.requires.at c.requires.row.0.0 c.requires.row.0.1 c.requires.row.1

pub place_row-requires-clause-room : goal.place_row-requires-clause-room
place_row-requires-clause-room c = omega (arith, c.requires.next.0)

pub returns : goal.returns
returns c = let all_of = row_placed (area_tiling _ _) (area_differ _ _ _ _) _ _ _ _ _ _ _ c.requires.next.0 (omega (arith, c.requires.at.sides)) (row_tiling _ _ _) (marked _ _) _ _ (row_tiled _ _ _ _ _ c.requires.both.first c.requires.at c.requires.row.0.0 c.requires.row.0.1 c.requires.row.1) (λ x i h k l. marks_say _ _ _ _ _ _ _ _ _ _ c.mark_row.ensures _ x i h k l) c.place_row.ensures.next c.place_row.ensures.list in record { next = all_of.0; list = all_of.1 }
