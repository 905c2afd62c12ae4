-- `geometry::tiles::tile_count` meets its contract. Assumes nothing.
use native.Mathlib.Omega.{arith}
use Rattle.geometry.proofs.TileLaws.{product, count_is}
use borrow.Author.Rules.{rules}
use Rattle.geometry.proofs.tiles.tile_count.Goals as goal

pub overflow_mul-result : goal.overflow_mul-result
overflow_mul-result c = let k = product c.tiles_down.result c.tiles_across.result (omega arith) (omega arith) in record { fits = omega arith }

pub returns : goal.returns
returns c = search (rules, count_is)
