-- `page_compare::place::place_row` meets its contract. Assumes nothing.
use borrow.Author.Rules.{rules}
use native.Mathlib.Omega.{arith}
use mathlib.Core.Path.{refl}
use Rattle.row_lists.proofs.CutLaws.{row_begin, row_go, row_end}
use Rattle.page_compare.specs.Sides.{marked, row_tiling}
use Rattle.page_compare.proofs.place.place_row.Goals as goal

pub loop-c-init : goal.loop-c-init
loop-c-init c = (refl, (omega arith, row_begin (row_tiling _ _ _) (marked _ _) _ _ _ _ _ c.requires.room))

pub place_cell-next-requires : goal.place_cell-next-requires
place_cell-next-requires c = let i = c.loop-c.invariant in record { r_bound = (c.requires.r_bound.0, (omega arith, (i.1.0.0, c.requires.r_bound.1.1.1))); marks = omega arith; small = c.requires.small; room = omega (arith, i.0, i.1.1.0) }

pub loop-c-preserved : goal.loop-c-preserved
loop-c-preserved c = let i = c.loop-c.invariant in (search rules, (omega arith, row_go (row_tiling _ _ _) (marked _ _) _ _ _ _ _ _ _ _ _ _ i.1.0.0 c.requires.room i.1.1.0 c.place_cell-next.ensures.next i.1.1.1 c.place_cell-next.ensures.list))

pub returns : goal.returns
returns c = let all_of = row_end (row_tiling _ _ _) (marked _ _) _ _ _ _ _ _ _ _ _ (omega arith) c.loop-c.invariant.1.1 in record { next = all_of.0; list = all_of.1 }
