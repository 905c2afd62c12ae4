-- `page_compare::place::place_band` meets its contract. Assumes nothing.
use borrow.Author.Rules.{rules}
use native.Mathlib.Omega.{arith}
use mathlib.Core.Path.{refl}
use Rattle.blocks.proofs.WalkLaws.{walk_less}
use Rattle.store.proofs.PieceLaws.{walk_first, walk_next}
use Rattle.row_lists.proofs.RowLaws.{walk_begins, walk_within, walk_more, columns_all}
use Rattle.page_compare.specs.Sides.{area_differ, area_tiling}
use Rattle.page_compare.proofs.PlaceLaws.{cells_few, piece_room, band_low, first_within, first_behind}
use Rattle.page_compare.proofs.place.place_band.Goals as goal

pub overflow_mul-cells : goal.overflow_mul-cells
overflow_mul-cells c = record { fits = omega (arith, cells_few _ _ c.requires.both.first _ _ c.shape_of-shape.ensures.tile_rows c.shape_of-shape.ensures.tile_columns) }

pub loop-p-init : goal.loop-p-init
loop-p-init c = let b = band_low _ _ c.requires.both.first _ _ c.requires.band.1 c.requires.band.0 in ((refl, (refl, (refl, refl))), (cells_few _ _ c.requires.both.first _ _ c.shape_of-shape.ensures.tile_rows c.shape_of-shape.ensures.tile_columns, ((walk_first _ _ c.requires.both.first _ _ c.first_piece-p.ensures (omega (arith, c.requires.band.0))).0, walk_begins (area_tiling _ _) (area_differ _ _ _ _) _ _ _ _ _ b.0 _ _ _ _ _ (first_within _ _ c.requires.both.first _ _ _ c.first_piece-p.ensures c.requires.band.1 c.requires.band.0) (first_behind _ _ c.requires.both.first _ _ _ c.first_piece-p.ensures c.requires.band.1 c.requires.band.0) c.requires.next)))

pub place_tile-requires : goal.place_tile-requires
place_tile-requires c = let i = c.loop-p.invariant in let b = band_low _ _ c.requires.both.first _ _ c.requires.band.1 c.requires.band.0 in let o = i.1.1.0.piece (omega (arith, b.1.0, c.loop-p-test.true)) in
    record {
      both = c.requires.both;
      at = o;
      cells = i.1.0;
      room = piece_room _ _ c.requires.both.first _ _ _ _ o (omega (arith, c.requires.room.0, i.0.1.0)) (omega (arith, c.requires.room.1.0, i.0.1.1.0)) c.requires.room.1.1;
      ends = (walk_within (area_tiling _ _) (area_differ _ _ _ _) _ _ _ _ _ b.0 _ _ _ c.loop-p.p.right _ _ _ i.1.1.1 c.loop-p-test.true _ _ (omega (arith, i.0.1.1.1)) c.requires.ends).0;
      next = (walk_within (area_tiling _ _) (area_differ _ _ _ _) _ _ _ _ _ b.0 _ _ _ _ _ _ _ i.1.1.1 c.loop-p-test.true _ _ (omega (arith, i.0.1.1.1)) c.requires.ends).1;
    }

pub loop-p-smaller : goal.loop-p-smaller
loop-p-smaller c = let i = c.loop-p.invariant in let b = band_low _ _ c.requires.both.first _ _ c.requires.band.1 c.requires.band.0 in let h = c.loop-p-test.true in let w = walk_next _ _ c.requires.both.first _ _ _ i.1.1.0 (omega (arith, b.1.0, h)) c.next_piece-p.ensures in let o = (i.1.1.0.piece (omega (arith, b.1.0, h))).sides in walk_less _ w.1 o.0 o.1.0 o.1.1.0

pub loop-p-preserved : goal.loop-p-preserved
loop-p-preserved c = let i = c.loop-p.invariant in let b = band_low _ _ c.requires.both.first _ _ c.requires.band.1 c.requires.band.0 in let h = c.loop-p-test.true in let w = walk_next _ _ c.requires.both.first _ _ _ i.1.1.0 (omega (arith, b.1.0, h)) c.next_piece-p.ensures in let o = (i.1.1.0.piece (omega (arith, b.1.0, h))).sides in ((search rules, (search rules, (search rules, search rules))), (i.1.0, (w.0, walk_more (area_tiling _ _) (area_differ _ _ _ _) _ _ _ _ _ b.0 _ _ _ _ _ _ _ i.1.1.1 h _ _ _ _ _ _ (omega (arith, i.0.1.1.1)) i.0.1.1.1 (omega arith) w.1 c.place_tile.ensures.next c.place_tile.ensures.list)))

pub returns : goal.returns
returns c = let i = c.loop-p.invariant in let b = band_low _ _ c.requires.both.first _ _ c.requires.band.1 c.requires.band.0 in columns_all (area_tiling _ _) (area_differ _ _ _ _) _ _ _ _ (omega (arith, b.0)) _ _ (i.1.1.1.behind (omega (arith, c.loop-p-test.false)))
