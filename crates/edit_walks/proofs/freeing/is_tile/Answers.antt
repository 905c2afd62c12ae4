-- `edit_walks::freeing::is_tile` meets its contract. Assumes nothing.
use native.Mathlib.Omega.{arith}
use Rattle.bodies.specs.TileRecord.{tile_index}
use Rattle.edit_walks.proofs.JoinLaws.{tile_other, tile_index_lem, tile_is}
use Rattle.edit_walks.proofs.freeing.is_tile.Goals as goal

pub returns-then-kind-ne-TILE : goal.returns-then-kind-ne-TILE
unfolding tile_index
returns-then-kind-ne-TILE c = tile_other _ _ _ _ c.requires (λ z. omega arith)

pub returns-then-u32_off-i : goal.returns-then-u32_off-i
unfolding tile_index
returns-then-u32_off-i c = tile_index_lem _ _ _ c.u32_off.ensures (λ z. omega arith)

pub returns : goal.returns
unfolding tile_index
returns c = tile_is _ _ _ _ c.requires (omega arith) c.u32_off.ensures (omega arith)
