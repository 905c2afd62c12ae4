-- `correct::tiles::put_tile_head_cut` meets its contract. Assumes nothing.
use Rattle.stores.proofs.JoinLaws.{ran, told}
use Rattle.correct.proofs.TileLaws.{tile_head_stored}
use Rattle.correct.proofs.tiles.put_tile_head_cut.Goals as goal

pub returns : goal.returns
returns c = let all_of = told (tile_head_stored _ _ _ (ran (c.put_head_cut-a.ensures.left, c.put_head_cut-a.ensures.holds)) (ran (c.put_u32_cut.ensures.left, c.put_u32_cut.ensures.holds)) c.requires) in record { left = all_of.0; holds = all_of.1 }
