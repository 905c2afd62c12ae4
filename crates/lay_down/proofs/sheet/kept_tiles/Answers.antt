-- `lay_down::sheet::kept_tiles` meets its contract. Assumes nothing.
use Rattle.lay_down.proofs.FrontLaws.{front_of_lem}
use Rattle.lay_down.proofs.SheetLaws.{keeping_none, keeping_more, keeping_all}
use borrow.Author.Rules.{rules}
use native.Mathlib.Omega.{arith}
use Rattle.lay_down.proofs.sheet.kept_tiles.Goals as goal

pub overflow_cast-count : goal.overflow_cast-count
overflow_cast-count c = let w = front_of_lem _ c.requires.0 in omega (arith, w.tiles, c.tile_count-count.ensures)

pub loop-tile-init : goal.loop-tile-init
loop-tile-init c = (search rules, keeping_none _ _ _ c.requires.1)

pub keep_tile-n-requires : goal.keep_tile-n-requires
keep_tile-n-requires c = let w = front_of_lem _ c.requires.0 in let v = c.loop-tile.invariant.1 in (c.requires.0, (omega (arith, w.tiles, c.tile_count-count.ensures), omega (arith, v.few, v.room, w.tiles, c.tile_count-count.ensures)))

pub loop-tile-preserved : goal.loop-tile-preserved
loop-tile-preserved c = let w = front_of_lem _ c.requires.0 in (search rules, keeping_more _ _ _ _ _ _ _ c.loop-tile.invariant.1 (omega (arith, w.tiles, c.tile_count-count.ensures)) c.keep_tile-n.ensures.count c.keep_tile-n.ensures.list)

pub returns : goal.returns
returns c = let all_of = keeping_all _ _ _ _ _ _ c.loop-tile.invariant.1 c.tile_count-count.ensures (front_of_lem _ c.requires.0).tiles c.loop-tile.invariant.0 (omega arith) in record { few = all_of.0; list = all_of.1 }
