-- `page_compare::place::list_band` meets its contract. Assumes nothing.
use native.Mathlib.Omega.{arith}
use Rattle.row_lists.proofs.RowLaws.{band_none, counts_small, spread_band}
use Rattle.page_compare.specs.Sides.{area_differ, area_tiling}
use Rattle.page_compare.proofs.PlaceLaws.{area_few, none_halted, band_low}
use Rattle.page_compare.proofs.place.list_band.Goals as goal

pub count_band-requires-clause-both : goal.count_band-requires-clause-both
count_band-requires-clause-both c = c.requires.both

pub count_band-requires-clause-band : goal.count_band-requires-clause-band
count_band-requires-clause-band c = c.requires.band

pub count_band-requires-clause-room : goal.count_band-requires-clause-room
count_band-requires-clause-room c = (c.requires.room.0, c.requires.room.1.0)

pub returns-then-n-eq0 : goal.returns-then-n-eq0
returns-then-n-eq0 c = let b = band_low _ _ c.requires.both.first _ _ c.requires.band.1 c.requires.band.0 in let all_of = band_none (area_tiling _ _) (area_differ _ _ _ _) _ _ _ _ (omega (arith, b.0)) _ _ (c.count_band.ensures.cells _ c.in-Cells.is).1.0 c.if-n-eq0.true in record { count = all_of.0; list = all_of.1 }

pub overflow_sub-bottom : goal.overflow_sub-bottom
overflow_sub-bottom c = let b = band_low _ _ c.requires.both.first _ _ c.requires.band.1 c.requires.band.0 in omega (arith, b.0)

pub spread-requires : goal.spread-requires
spread-requires c = let b = band_low _ _ c.requires.both.first _ _ c.requires.band.1 c.requires.band.0 in let m = area_few _ _ _ _ c.requires.both in let y = (c.count_band.ensures.cells _ c.in-Cells.is).1 in record { n_bound = (b.1.1, (omega (arith, b.1.1, c.requires.room.1.0), omega (arith, b.1.1, c.requires.room.1.1))); small = (c.requires.from.1, counts_small (area_differ _ _ _ _) _ _ _ _ _ y.1 m.1.1 m.1.0) }

pub place_band-requires : goal.place_band-requires
place_band-requires c = let b = band_low _ _ c.requires.both.first _ _ c.requires.band.1 c.requires.band.0 in let y = (c.count_band.ensures.cells _ c.in-Cells.is).1 in let s = spread_band (area_differ _ _ _ _) _ _ _ _ _ _ _ _ _ c.spread.ensures (omega (arith, b.0)) y.1 c.requires.from.0 in record { both = c.requires.both; band = c.requires.band; room = (omega (arith, c.requires.room.0), (omega (arith, c.requires.room.1.0), omega (arith, c.requires.room.1.1))); ends = s.1; next = s.0 }

pub returns-in-Halted : goal.returns-in-Halted
returns-in-Halted c = absurd (none_halted _ _ _ _ c.count_band.ensures c.in-Halted.is c.requires.read)

pub returns-else-n-eq0-clause-count : goal.returns-else-n-eq0-clause-count
returns-else-n-eq0-clause-count c = (c.count_band.ensures.cells _ c.in-Cells.is).1.0

pub returns-else-n-eq0-clause-list : goal.returns-else-n-eq0-clause-list
returns-else-n-eq0-clause-list c = c.place_band.ensures
