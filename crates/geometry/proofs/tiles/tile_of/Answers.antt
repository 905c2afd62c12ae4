-- `geometry::tiles::tile_of` meets its contract. Assumes nothing.
use native.Mathlib.Omega.{arith}
use Rattle.geometry.proofs.TileLaws.{product, tile_is}
use borrow.Author.Rules.{rules}
use Rattle.geometry.proofs.tiles.tile_of.Goals as goal

pub overflow_mul-result : goal.overflow_mul-result
overflow_mul-result c = let k = product c.quotient-down.result c.args.across (omega arith) (omega arith) in record { fits = omega arith }

pub overflow_add-result : goal.overflow_add-result
overflow_add-result c = let k = product c.quotient-down.result c.args.across (omega arith) (omega arith) in record { fits = omega arith }

pub returns : goal.returns
returns c = search (rules, tile_is)
