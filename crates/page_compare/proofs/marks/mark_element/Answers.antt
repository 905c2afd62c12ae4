-- `page_compare::marks::mark_element` meets its contract. Assumes nothing.
use native.Mathlib.Omega.{arith}
use Rattle.store.proofs.PieceLaws.{rectangle_small}
use Rattle.page_compare.proofs.MarkLaws.{row_numbered, numbered_says, held_says}
use Rattle.page_compare.proofs.marks.mark_element.Goals as goal

pub tell_marks-requires : goal.tell_marks-requires
tell_marks-requires c = let w = row_numbered _ _ _ _ _ _ _ _ _ _ c.requires.ready.0 c.requires.ready.1 _ c.requires.both (c.both_told.ensures c.if-both_told.true).0 (c.both_told.ensures c.if-both_told.true).1 c.requires.row.1 c.requires.row.0.0 c.requires.row.0.1 in (omega (arith, w.0.small), (omega (arith, c.requires.there.0, c.requires.both.few), c.requires.there.1))

pub returns-then-both_told : goal.returns-then-both_told
returns-then-both_told c = let w = row_numbered _ _ _ _ _ _ _ _ _ _ c.requires.ready.0 c.requires.ready.1 _ c.requires.both (c.both_told.ensures c.if-both_told.true).0 (c.both_told.ensures c.if-both_told.true).1 c.requires.row.1 c.requires.row.0.0 c.requires.row.0.1 in numbered_says _ _ _ _ _ _ _ _ _ _ c.requires.ready.0 c.requires.ready.1 _ _ _ w.0 w.1 c.tell_marks.ensures

pub look_up_marks-requires : goal.look_up_marks-requires
look_up_marks-requires c = let w = rectangle_small _ _ c.requires.both.first in record { small = (omega (arith, w, c.requires.at.sides, c.requires.row.0), omega (arith, w, c.requires.at.sides)); e_lt_mark_width = (omega (arith, c.requires.there.0, c.requires.both.few), c.requires.there.1) }

pub returns : goal.returns
returns c = held_says _ _ _ _ _ _ _ _ _ _ c.requires.ready.0 c.requires.ready.1 _ _ c.requires.row.0.0 c.requires.row.0.1 c.look_up_marks.ensures
