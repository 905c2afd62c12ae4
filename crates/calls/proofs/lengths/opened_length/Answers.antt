-- `calls::lengths::opened_length` meets its contract. Assumes nothing.
use native.Mathlib.Omega.{arith}
use Rattle.calls.proofs.ReadLaws.{worked_of}
use Rattle.calls.proofs.LengthLaws.{tiles_few, least_near, opened_full, opened_more_lem}
use Rattle.calls.proofs.lengths.opened_length.Goals as goal

pub returns-then-directory_full : goal.returns-then-directory_full
returns-then-directory_full c = opened_full _ c.directory_full.ensures c.if-directory_full.true

pub overflow_mul-count : goal.overflow_mul-count
overflow_mul-count c = omega (arith, tiles_few _ _ c.requires c.tile_count-count.ensures)

pub overflow_add-count : goal.overflow_add-count
overflow_add-count c = omega (arith, tiles_few _ _ c.requires c.tile_count-count.ensures)

pub overflow_cast-count : goal.overflow_cast-count
overflow_cast-count c = omega (arith, tiles_few _ _ c.requires c.tile_count-count.ensures)

pub overflow_add-result : goal.overflow_add-result
overflow_add-result c = omega (arith, tiles_few _ _ c.requires c.tile_count-count.ensures, least_near _ _ c.least_length.ensures, (worked_of _ c.requires).file)

pub returns : goal.returns
returns c = opened_more_lem _ _ _ c.directory_full.ensures c.if-directory_full.false c.tile_count-count.ensures c.least_length.ensures
