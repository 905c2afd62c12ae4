-- `page_compare::place::list_all` meets its contract. Assumes nothing.
use borrow.Author.Rules.{rules}
use native.Mathlib.Omega.{arith}
use mathlib.Core.Path.{refl, sym}
use Rattle.row_lists.proofs.RowLaws.{list_begin, list_full, list_done, list_end, list_band, count_first, done_small, done_more}
use Rattle.page_compare.specs.Sides.{area_differ, area_tiling}
use Rattle.page_compare.proofs.PlaceLaws.{area_few, band_low, rows_read}
use Rattle.page_compare.proofs.place.list_all.Goals as goal

pub loop-top-init : goal.loop-top-init
loop-top-init c = (((refl, (refl, (refl, refl))), (refl, refl)), (omega arith, (sym (count_first (area_differ _ _ _ _) _ _), list_begin (area_tiling _ _) (area_differ _ _ _ _) _ _ _ _)))

pub returns-then-total-done : goal.returns-then-total-done
returns-then-total-done c = let i = c.loop-top.invariant in list_done (area_tiling _ _) (area_differ _ _ _ _) _ _ _ _ _ _ (omega (arith, c.requires.total, i.1.1.0, c.if-total-done.true)) i.1.1.1

pub returns-then-room-done : goal.returns-then-room-done
returns-then-room-done c = let i = c.loop-top.invariant in list_full (area_tiling _ _) (area_differ _ _ _ _) _ _ _ _ _ _ (omega (arith, i.0.1.1, i.1.1.0, c.if-room-done.true)) i.1.1.1

pub list_band-done-requires : goal.list_band-done-requires
list_band-done-requires c = let i = c.loop-top.invariant in let b = band_low _ _ c.requires.both.first _ _ c.band_end-bottom.ensures c.loop-top-test.true in let m = area_few _ _ _ _ c.requires.both in record { both = c.requires.both; band = (c.loop-top-test.true, c.band_end-bottom.ensures); room = (omega (arith, i.0.0.1.0, c.requires.room.0), (omega (arith, i.0.0.1.1.0, c.requires.room.1), omega (arith, i.0.1.0))); read = rows_read _ _ _ _ _ _ c.loop-top.top _ c.requires.read b.1.0; from = (i.1.1.0, done_small (area_differ _ _ _ _) _ _ _ _ i.1.1.0 (omega (arith, i.1.0, m.0)) m.1.1 m.1.0) }

pub overflow_add-done : goal.overflow_add-done
overflow_add-done c = let i = c.loop-top.invariant in let b = band_low _ _ c.requires.both.first _ _ c.band_end-bottom.ensures c.loop-top-test.true in let m = area_few _ _ _ _ c.requires.both in let z = done_more (area_differ _ _ _ _) _ _ _ c.band_end-bottom.result _ _ i.1.1.0 c.list_band-done.ensures.count (omega (arith, b.0)) in let y = done_small (area_differ _ _ _ _) _ _ c.band_end-bottom.result _ z (omega (arith, b.1.0, m.0)) m.1.1 m.1.0 in record { fits = omega (arith, y) }

pub loop-top-smaller : goal.loop-top-smaller
loop-top-smaller c = let b = band_low _ _ c.requires.both.first _ _ c.band_end-bottom.ensures c.loop-top-test.true in omega (arith, b.0, c.loop-top-test.true)

pub loop-top-preserved : goal.loop-top-preserved
loop-top-preserved c = let i = c.loop-top.invariant in let b = band_low _ _ c.requires.both.first _ _ c.band_end-bottom.ensures c.loop-top-test.true in (((search rules, (search rules, (search rules, search rules))), (search rules, i.0.1.1)), (b.1.0, (done_more (area_differ _ _ _ _) _ _ _ c.band_end-bottom.result _ _ i.1.1.0 c.list_band-done.ensures.count (omega (arith, b.0)), list_band (area_tiling _ _) (area_differ _ _ _ _) _ _ _ _ _ _ _ _ b.1.0 i.1.1.1 c.list_band-done.ensures.list)))

pub returns : goal.returns
returns c = let i = c.loop-top.invariant in list_end (area_tiling _ _) (area_differ _ _ _ _) _ _ _ _ _ _ (omega (arith, i.1.0, c.loop-top-test.false)) i.1.1.1
