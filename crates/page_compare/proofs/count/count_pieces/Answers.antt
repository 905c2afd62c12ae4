-- `page_compare::count::count_pieces` meets its contract. Assumes nothing.
use borrow.Author.Rules.{rules}
use native.Mathlib.Omega.{arith}
use mathlib.Core.Path.{refl}
use Rattle.page_compare.proofs.CountLaws.{tile_cells_lem, along_first, along_end, here_piece, here_small, here_narrow, here_halted, here_fits, here_next, here_less}
use Rattle.page_compare.proofs.count.count_pieces.Goals as goal

pub overflow_mul-cells : goal.overflow_mul-cells
overflow_mul-cells c = record { fits = omega (arith, tile_cells_lem _ _ _ _ c.requires.both.first c.shape_of-shape.ensures.tile_rows c.shape_of-shape.ensures.tile_columns) }

pub loop-p-init : goal.loop-p-init
loop-p-init c = (refl, (refl, (refl, (tile_cells_lem _ _ _ _ c.requires.both.first c.shape_of-shape.ensures.tile_rows c.shape_of-shape.ensures.tile_columns, along_first _ _ _ _ c.requires.both _ _ c.requires.band.0 c.requires.band.1 _ _ c.first_piece-p.ensures c.requires.clear))))

pub count_tile-requires-clause-both : goal.count_tile-requires-clause-both
count_tile-requires-clause-both c = c.requires.both

pub count_tile-requires-clause-at : goal.count_tile-requires-clause-at
count_tile-requires-clause-at c = here_piece _ _ _ _ c.requires.both _ _ c.requires.band.0 c.requires.band.1 _ _ _ c.loop-p.invariant.1.1.1.1 c.loop-p-test.true

pub count_tile-requires-clause-cells : goal.count_tile-requires-clause-cells
count_tile-requires-clause-cells c = c.loop-p.invariant.1.1.1.0

pub count_tile-requires-clause-room : goal.count_tile-requires-clause-room
count_tile-requires-clause-room c = here_narrow _ _ _ _ c.requires.both _ _ c.requires.band.0 c.requires.band.1 _ _ _ c.loop-p.invariant.1.1.1.1 c.loop-p-test.true _ (omega (arith, c.requires.room.0, c.loop-p.invariant.1.0))

pub count_tile-requires-clause-small : goal.count_tile-requires-clause-small
count_tile-requires-clause-small c = here_small _ _ _ _ c.requires.both _ _ c.requires.band.0 c.requires.band.1 _ _ _ c.loop-p.invariant.1.1.1.1 c.loop-p-test.true (omega (arith, c.requires.room.1, c.loop-p.invariant.1.1.0))

pub returns-in-Halted : goal.returns-in-Halted
returns-in-Halted c = here_halted _ _ _ _ c.requires.both _ _ c.requires.band.0 c.requires.band.1 _ _ _ c.loop-p.invariant.1.1.1.1 c.loop-p-test.true _ _ c.count_tile.ensures _ _ c.in-Halted.is

pub overflow_add-every : goal.overflow_add-every
overflow_add-every c = record { fits = omega (arith, here_fits _ _ _ _ c.requires.both _ _ c.requires.band.0 c.requires.band.1 _ _ _ c.loop-p.invariant.1.1.1.1 c.loop-p-test.true _ _ c.count_tile.ensures _ c.in-Cells.is) }

pub loop-p-smaller : goal.loop-p-smaller
loop-p-smaller c = here_less _ _ _ _ c.requires.both _ _ c.requires.band.0 c.requires.band.1 _ _ _ c.loop-p.invariant.1.1.1.1 c.loop-p-test.true _ c.next_piece-p.ensures

pub loop-p-preserved : goal.loop-p-preserved
loop-p-preserved c = (search rules, (search rules, (search rules, (c.loop-p.invariant.1.1.1.0, here_next _ _ _ _ c.requires.both _ _ c.requires.band.0 c.requires.band.1 _ _ _ c.loop-p.invariant.1.1.1.1 c.loop-p-test.true _ _ c.count_tile.ensures _ c.in-Cells.is _ c.next_piece-p.ensures))))

pub returns : goal.returns
returns c = along_end _ _ _ _ c.requires.both _ _ c.requires.band.0 c.requires.band.1 _ _ _ c.loop-p.invariant.1.1.1.1 c.loop-p-test.false
