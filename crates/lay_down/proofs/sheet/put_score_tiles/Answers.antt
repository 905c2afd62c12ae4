-- `lay_down::sheet::put_score_tiles` meets its contract. Assumes nothing.
use Rattle.lay_down.proofs.FrontLaws.{front_of_lem}
use Rattle.lay_down.proofs.TileWriting.{tiling_all}
use Rattle.lay_down.proofs.SheetWriting.{scoring_none, scoring_fits, scoring_tile, scoring_more}
use borrow.Author.Rules.{rules}
use native.Mathlib.Omega.{arith}
use Rattle.lay_down.proofs.sheet.put_score_tiles.Goals as goal

pub loop-tile-init : goal.loop-tile-init
loop-tile-init c = (search rules, scoring_none _ _ _ _)

pub put_score_tile-requires : goal.put_score_tile-requires
put_score_tile-requires c = let v = c.loop-tile.invariant.1 in let h = c.loop-tile-test.true in ((c.requires.ready.0, (c.requires.kept.1.1, (scoring_tile _ _ _ (front_of_lem _ c.requires.ready.0) c.requires.kept.1.0 _ h, omega (arith, v.kept, scoring_fits _ _ _ _ _ _ _ v (front_of_lem _ c.requires.ready.0) _ c.requires.kept.0 c.requires.ready.1.0 c.requires.ready.1.1 h)))), c.requires.kept.0)

pub overflow_add-at : goal.overflow_add-at
overflow_add-at c = omega (arith, scoring_fits _ _ _ _ _ _ _ c.loop-tile.invariant.1 (front_of_lem _ c.requires.ready.0) _ c.requires.kept.0 c.requires.ready.1.0 c.requires.ready.1.1 c.loop-tile-test.true)

pub loop-tile-preserved : goal.loop-tile-preserved
loop-tile-preserved c = (search rules, scoring_more _ _ _ _ _ _ _ c.loop-tile.invariant.1 (front_of_lem _ c.requires.ready.0) _ c.requires.kept.0 c.requires.ready.1.0 c.requires.ready.1.1 c.loop-tile-test.true _ c.requires.kept.1.0 c.requires.kept.1.1 c.put_score_tile.ensures)

pub shape_of-out : goal.shape_of-out
shape_of-out c = c.loop-tile.invariant.1.kept

pub returns : goal.returns
returns c = tiling_all _ _ _ _ _ _ _ _ c.loop-tile.invariant.1 (omega arith)
