-- `geometry::sizes::cell_offset` meets its contract. Assumes nothing.
use native.Mathlib.Omega.{arith}
use Rattle.geometry.specs.Sizes.{cell_offset}
use Rattle.geometry.proofs.SizeLaws.{size_range}
use Rattle.geometry.proofs.TileLaws.{product}
use Rattle.geometry.proofs.sizes.cell_offset.Goals as goal

pub overflow_mul-result : goal.overflow_mul-result
unfolding cell_offset
overflow_mul-result c = let r = size_range c.args.kind in let k = product c.args.inside c.cell_size.result (omega arith) (omega arith) in record { fits = omega arith }

pub returns : goal.returns
unfolding cell_offset
returns c = cc
