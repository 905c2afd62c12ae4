-- `page_compare::place::place_element` meets its contract. Assumes nothing.
use Rattle.row_lists.proofs.CutLaws.{element_entry, element_full, element_pass}
use Rattle.page_compare.specs.Sides.{marked, row_tiling}
use Rattle.page_compare.proofs.place.place_element.Goals as goal

pub returns-then-k-room : goal.returns-then-k-room
unfolding marked row_tiling
returns-then-k-room c = let all_of = element_entry (row_tiling _ _ _) _ _ _ _ _ c.args.k _ c.is_mark.ensures _ c.if-is_mark.true c.if-k-room.true c.put_entry.ensures in record { next = all_of.0; list = all_of.1 }

pub returns-then-is_mark : goal.returns-then-is_mark
unfolding marked row_tiling
returns-then-is_mark c = let all_of = element_full (row_tiling _ _ _) _ _ _ _ _ c.args.k _ c.is_mark.ensures c.if-is_mark.true c.requires.room c.if-k-room.false in record { next = all_of.0; list = all_of.1 }

pub returns : goal.returns
unfolding marked row_tiling
returns c = let all_of = element_pass (row_tiling _ _ _) _ _ _ _ _ c.args.k _ c.is_mark.ensures c.if-is_mark.false c.requires.room in record { next = all_of.0; list = all_of.1 }
