-- `page_compare::place::place_cell` meets its contract. Assumes nothing.
use borrow.Author.Rules.{rules}
use native.Mathlib.Omega.{arith}
use mathlib.Core.Path.{refl}
use Rattle.row_lists.proofs.CutLaws.{cell_begin, cell_go, cell_end}
use Rattle.page_compare.specs.Sides.{marked, row_tiling}
use Rattle.page_compare.proofs.place.place_cell.Goals as goal

pub loop-e-init : goal.loop-e-init
loop-e-init c = (refl, (omega arith, cell_begin (row_tiling _ _ _) (marked _ _) _ _ _ _ c.requires.room))

pub place_element-next-requires : goal.place_element-next-requires
place_element-next-requires c = let i = c.loop-e.invariant in record { r_bound = (c.requires.r_bound.0, (c.requires.r_bound.1.0, (c.requires.r_bound.1.1.0, omega arith))); marks = omega arith; small = c.requires.small; room = omega (arith, i.0, i.1.1.0) }

pub loop-e-preserved : goal.loop-e-preserved
loop-e-preserved c = let i = c.loop-e.invariant in (search rules, (omega arith, cell_go (row_tiling _ _ _) (marked _ _) _ _ _ _ _ _ _ _ _ c.requires.room i.1.1.0 c.place_element-next.ensures.next i.1.1.1 c.place_element-next.ensures.list))

pub returns : goal.returns
returns c = let all_of = cell_end (row_tiling _ _ _) (marked _ _) _ _ _ _ _ _ _ _ (omega arith) c.loop-e.invariant.1.1 in record { next = all_of.0; list = all_of.1 }
