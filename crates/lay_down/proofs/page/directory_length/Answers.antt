-- `lay_down::page::directory_length` meets its contract. Assumes nothing.
use Rattle.lay_down.proofs.FrontLaws.{front_of_lem, directory_is}
use native.Mathlib.Omega.{arith}
use Rattle.lay_down.proofs.page.directory_length.Goals as goal

pub overflow_mul-count : goal.overflow_mul-count
overflow_mul-count c = let w = front_of_lem _ c.requires in omega (arith, w.tiles, c.tile_count-count.ensures)

pub overflow_add-count : goal.overflow_add-count
overflow_add-count c = let w = front_of_lem _ c.requires in omega (arith, w.tiles, c.tile_count-count.ensures)

pub overflow_cast-count : goal.overflow_cast-count
overflow_cast-count c = let w = front_of_lem _ c.requires in omega (arith, w.tiles, c.tile_count-count.ensures)

pub returns : goal.returns
returns c = directory_is _ _ _ c.tile_count-count.ensures c.least_length.ensures
