-- `calls::opening::grid_of` meets its contract. Assumes nothing.
use native.Mathlib.Omega.{arith}
use Rattle.calls.proofs.ReadLaws.{worked_of}
use Rattle.calls.proofs.OpenLaws.{grid_is}
use Rattle.calls.proofs.opening.grid_of.Goals as goal

pub overflow_cast-count : goal.overflow_cast-count
overflow_cast-count c = omega (arith, (worked_of _ c.requires).tiles, c.tile_count-count.ensures)

pub returns : goal.returns
returns c = grid_is _ c.directory_full-full.ensures c.tiles_down-down.ensures c.tiles_across-across.ensures c.tile_count-count.ensures
