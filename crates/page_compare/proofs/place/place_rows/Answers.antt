-- `page_compare::place::place_rows` meets its contract. Assumes nothing.
use borrow.Author.Rules.{rules}
use native.Mathlib.Omega.{arith}
use Prim.Native.Nat.{◌/◌}
use mathlib.Core.Path.{refl}
use lib.ListN.{length}
use Rattle.store.proofs.PieceLaws.{start_small}
use Rattle.row_lists.specs.Entries.{entry_size}
use Rattle.row_lists.proofs.RowLaws.{piece_none, piece_end}
use Rattle.page_compare.specs.Sides.{area_differ, area_tiling}
use Rattle.page_compare.proofs.PlaceLaws.{row_sides, row_next, row_more}
use Rattle.page_compare.proofs.place.place_rows.Goals as goal

pub loop-r-init : goal.loop-r-init
loop-r-init c = ((refl, (refl, refl)), (c.shape_of-shape.ensures.tile_columns, (omega (arith, c.requires.at.sides), (c.requires.next, piece_none (area_tiling _ _) (area_differ _ _ _ _) _ _ _ _ _ _ _))))

pub overflow_mul-start : goal.overflow_mul-start
overflow_mul-start c = record { fits = omega (arith, start_small _ _ _ c.loop-r.r _ c.requires.both.first c.requires.at c.loop-r.invariant.1.0 (omega arith) (omega arith)) }

pub overflow_add-start : goal.overflow_add-start
overflow_add-start c = record { fits = omega (arith, start_small _ _ _ c.loop-r.r _ c.requires.both.first c.requires.at c.loop-r.invariant.1.0 (omega arith) (omega arith)) }

pub offset_bounds-next-i : goal.offset_bounds-next-i
offset_bounds-next-i c = record { fits = omega (arith, (row_sides _ _ _ _ _ c.loop-r.r c.requires.both c.requires.at c.loop-r-test.true).0) }

pub bounds-next-i : goal.bounds-next-i
bounds-next-i c = let i = c.loop-r.invariant in omega (arith, c.requires.room.1.0, i.0.1.0)

pub offset_bounds-ends-i : goal.offset_bounds-ends-i
offset_bounds-ends-i c = record { fits = omega (arith, (row_sides _ _ _ _ _ c.loop-r.r c.requires.both c.requires.at c.loop-r-test.true).0) }

pub bounds-ends-i : goal.bounds-ends-i
bounds-ends-i c = omega (arith, c.requires.room.1.1)

pub place_stretch-after-requires : goal.place_stretch-after-requires
place_stretch-after-requires c = let i = c.loop-r.invariant in record { both = c.requires.both; at = c.requires.at; row = ((i.1.1.0.0, c.loop-r-test.true), rw i.1.0); ready = c.requires.ready; room = omega (arith, i.0.0, c.requires.room.0); next = row_next _ _ _ _ c.args.p _ c.loop-r.r (length c.loop-r.list / entry_size) c.loop-r.next c.args.ends.now i.1.1.1.0 c.requires.ends i.1.1.0.0 c.loop-r-test.true (omega (arith, i.0.1.1)) }

pub offset_bounds-next-i-in-loop-r : goal.offset_bounds-next-i-in-loop-r
offset_bounds-next-i-in-loop-r c = record { fits = omega (arith, (row_sides _ _ _ _ _ c.loop-r.r c.requires.both c.requires.at c.loop-r-test.true).0) }

pub bounds-next-i-in-loop-r : goal.bounds-next-i-in-loop-r
bounds-next-i-in-loop-r c = let i = c.loop-r.invariant in omega (arith, c.requires.room.1.0, i.0.1.0)

pub loop-r-preserved : goal.loop-r-preserved
loop-r-preserved c = let i = c.loop-r.invariant in ((search rules, (search rules, search rules)), (i.1.0, (omega arith, row_more _ _ _ _ _ _ c.loop-r.r _ (length c.loop-r.list / entry_size) c.loop-r.next _ _ _ c.requires.at i.1.1.1 i.1.1.0.0 c.loop-r-test.true (omega (arith, c.requires.room.1.0, i.0.1.0)) (omega (arith, i.0.1.1)) i.0.1.1 c.place_stretch-after.ensures.next c.place_stretch-after.ensures.list)))

pub returns : goal.returns
returns c = let i = c.loop-r.invariant in let all_of = piece_end (area_differ _ _ _ _) _ _ _ _ _ _ _ (area_tiling _ _) _ _ _ _ (omega (arith, i.1.1.0)) i.1.1.1 in record { next = all_of.0; list = all_of.1 }
