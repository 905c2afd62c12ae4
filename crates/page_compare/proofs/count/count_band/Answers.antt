-- `page_compare::count::count_band` meets its contract. Assumes nothing.
use native.Mathlib.Omega.{arith}
use mathlib.Core.Path.{◌∙◌}
use Rattle.store.proofs.PieceLaws.{rectangle_small}
use Rattle.page_compare.proofs.CountLaws.{band_low, counted_few, says_still, says_cells, band_sum, band_counts}
use Rattle.page_compare.proofs.count.count_band.Goals as goal

pub overflow_sub-n : goal.overflow_sub-n
overflow_sub-n c = omega (arith, band_low _ _ c.requires.both.first _ _ c.requires.band.1 c.requires.band.0)

pub clear-requires : goal.clear-requires
clear-requires c = omega (arith, band_low _ _ c.requires.both.first _ _ c.requires.band.1 c.requires.band.0, c.requires.room.1)

pub count_pieces-requires-clause-both : goal.count_pieces-requires-clause-both
count_pieces-requires-clause-both c = c.requires.both

pub count_pieces-requires-clause-band : goal.count_pieces-requires-clause-band
count_pieces-requires-clause-band c = c.requires.band

pub count_pieces-requires-clause-room : goal.count_pieces-requires-clause-room
count_pieces-requires-clause-room c = (c.requires.room.0, omega (arith, c.requires.room.1, c.clear.ensures.long))

pub count_pieces-requires-clause-clear : goal.count_pieces-requires-clause-clear
count_pieces-requires-clause-clear c = (λ i k. c.clear.ensures.zero i (omega arith))

pub add_to_each-requires : goal.add_to_each-requires
add_to_each-requires c = let m = band_low _ _ c.requires.both.first _ _ c.requires.band.1 c.requires.band.0 in record { n_bound = (omega arith, omega arith); small = (λ i k. counted_few _ _ _ _ _ _ _ (c.count_pieces.ensures.cells _ c.in-Cells.is).1 c.requires.both.few (omega (arith, rectangle_small _ _ c.requires.both.first)) i (omega arith)) }

pub returns-in-Halted : goal.returns-in-Halted
returns-in-Halted c = says_still _ _ _ _ _ c.count_pieces.ensures c.in-Halted.is

pub returns-in-Cells : goal.returns-in-Cells
returns-in-Cells c = says_cells _ _ _ (c.count_pieces.ensures.cells _ c.in-Cells.is).0 (c.add_to_each.ensures.sum ∙ band_sum _ _ _ _ _ _ _ (c.count_pieces.ensures.cells _ c.in-Cells.is).1, band_counts _ _ _ _ _ _ _ _ (c.count_pieces.ensures.cells _ c.in-Cells.is).1 c.add_to_each.ensures.each)
