-- `lay_down::put_tiles` meets its contract. Assumes nothing.
use borrow.Author.Rules.{rules}
use Rattle.lay_down.proofs.FrontLaws.{front_of_lem, tile_exact}
use Rattle.lay_down.proofs.TileWriting.{tiling_none, tiling_fits, tiling_given, tiling_part, tiling_more, tiling_all}
use native.Mathlib.Omega.{arith}
use Rattle.lay_down.proofs.put_tiles.Goals as goal

pub loop-index-init : goal.loop-index-init
loop-index-init c = (search rules, tiling_none _ _ _ _)

pub put_tile-requires : goal.put_tile-requires
put_tile-requires c = let p = c.requires in let w = front_of_lem _ p.0.0 in let t = tile_exact _ w _ c.tile_bytes-tile.ensures in let v = c.loop-index.invariant.1 in (
  (
    p.0.0,
    (
      p.1.1,
      (
        tiling_part _ _ _ _ _ _ _ _ v w _ p.1.0 _ t p.0.1.0 p.0.1.1 c.loop-index-test.true _ c.part_of.ensures.holds,
        omega (arith, v.kept, tiling_fits _ _ _ _ _ _ _ _ v w _ p.1.0 _ t p.0.1.0 p.0.1.1 c.loop-index-test.true),
      ),
    ),
  ),
  p.1.0,
)

pub overflow_add-at : goal.overflow_add-at
overflow_add-at c = let p = c.requires in let w = front_of_lem _ p.0.0 in let t = tile_exact _ w _ c.tile_bytes-tile.ensures in
    omega (arith, tiling_fits _ _ _ _ _ _ _ _ c.loop-index.invariant.1 w _ p.1.0 _ t p.0.1.0 p.0.1.1 c.loop-index-test.true)

pub overflow_add-from : goal.overflow_add-from
overflow_add-from c = let p = c.requires in let w = front_of_lem _ p.0.0 in let t = tile_exact _ w _ c.tile_bytes-tile.ensures in
    omega (arith, tiling_given _ _ _ _ _ _ _ _ c.loop-index.invariant.1 w _ p.1.0 _ t p.0.1.0 p.0.1.1 c.loop-index-test.true)

pub loop-index-preserved : goal.loop-index-preserved
loop-index-preserved c = let p = c.requires in let w = front_of_lem _ p.0.0 in let t = tile_exact _ w _ c.tile_bytes-tile.ensures in
    (search rules, tiling_more _ _ _ _ _ _ _ _ c.loop-index.invariant.1 w _ p.1.0 _ t p.0.1.0 p.0.1.1 c.loop-index-test.true _ _ c.part_of.ensures.holds c.put_tile.ensures)

pub shape_of-out : goal.shape_of-out
shape_of-out c = c.loop-index.invariant.1.kept

pub returns : goal.returns
returns c = tiling_all _ _ _ _ _ _ _ _ c.loop-index.invariant.1 (omega arith)
