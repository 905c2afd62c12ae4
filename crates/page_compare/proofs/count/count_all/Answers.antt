-- `page_compare::count::count_all` meets its contract. Assumes nothing.
use borrow.Author.Rules.{rules}
use native.Mathlib.Omega.{arith}
use mathlib.Core.Path.{refl}
use Rattle.store.proofs.PieceLaws.{rectangle_small}
use Rattle.page_compare.proofs.CountLaws.{band_low, all_none, all_halted, all_more, all_fits, all_counted}
use Rattle.page_compare.proofs.count.count_all.Goals as goal

pub loop-top-init : goal.loop-top-init
loop-top-init c = (refl, (refl, (refl, (omega arith, all_none _ _ _ _))))

pub count_band-requires-clause-both : goal.count_band-requires-clause-both
count_band-requires-clause-both c = c.requires.both

pub count_band-requires-clause-band : goal.count_band-requires-clause-band
count_band-requires-clause-band c = (c.loop-top-test.true, c.band_end-bottom.ensures)

pub count_band-requires-clause-room : goal.count_band-requires-clause-room
count_band-requires-clause-room c = (omega (arith, c.requires.room.0, c.loop-top.invariant.1.0), omega (arith, c.requires.room.1, c.loop-top.invariant.1.1.0))

pub returns-in-Halted : goal.returns-in-Halted
returns-in-Halted c = all_halted _ _ _ _ c.loop-top.top _ _ _ _ (omega (arith, band_low _ _ c.requires.both.first _ _ c.band_end-bottom.ensures c.loop-top-test.true)) c.loop-top.invariant.1.1.1.1.0 c.loop-top.invariant.1.1.1.1.1 c.count_band.ensures _ _ c.in-Halted.is (omega (arith, band_low _ _ c.requires.both.first _ _ c.band_end-bottom.ensures c.loop-top-test.true)) c.halted.ensures

pub overflow_add-sum : goal.overflow_add-sum
overflow_add-sum c = let m = rectangle_small _ _ c.requires.both.first in record { fits = omega (arith, all_fits _ _ _ _ c.loop-top.top _ _ _ _ (omega (arith, band_low _ _ c.requires.both.first _ _ c.band_end-bottom.ensures c.loop-top-test.true)) c.loop-top.invariant.1.1.1.1.0 c.loop-top.invariant.1.1.1.1.1 c.count_band.ensures _ c.in-Cells.is c.requires.both.few (omega arith) (omega (arith, band_low _ _ c.requires.both.first _ _ c.band_end-bottom.ensures c.loop-top-test.true))) }

pub loop-top-smaller : goal.loop-top-smaller
loop-top-smaller c = omega (arith, band_low _ _ c.requires.both.first _ _ c.band_end-bottom.ensures c.loop-top-test.true)

pub loop-top-preserved : goal.loop-top-preserved
loop-top-preserved c = (search rules, (search rules, (search rules, (omega (arith, band_low _ _ c.requires.both.first _ _ c.band_end-bottom.ensures c.loop-top-test.true), all_more _ _ _ _ c.loop-top.top _ _ _ _ (omega (arith, band_low _ _ c.requires.both.first _ _ c.band_end-bottom.ensures c.loop-top-test.true)) c.loop-top.invariant.1.1.1.1.0 c.loop-top.invariant.1.1.1.1.1 c.count_band.ensures _ c.in-Cells.is))))

pub returns : goal.returns
returns c = all_counted _ _ _ _ _ _ c.loop-top.invariant.1.1.1.1.0 c.loop-top.invariant.1.1.1.1.1 (omega arith)
