-- `geometry::tiles::inside_of` meets its contract. Assumes nothing.
use native.Mathlib.Omega.{arith}
use Rattle.geometry.proofs.TileLaws.{product, inside_is}
use borrow.Author.Rules.{rules}
use Rattle.geometry.proofs.tiles.inside_of.Goals as goal

pub overflow_mul-result : goal.overflow_mul-result
overflow_mul-result c = let k = product c.remainder-down.result c.args.w (omega arith) (omega arith) in record { fits = omega arith }

pub overflow_add-result : goal.overflow_add-result
overflow_add-result c = let k = product c.remainder-down.result c.args.w (omega arith) (omega arith) in record { fits = omega arith }

pub returns : goal.returns
returns c = search (rules, inside_is)
