-- `geometry::sizes::tile_bytes` meets its contract. Assumes nothing.
use Rattle.geometry.proofs.SizeLaws.{under}
use borrow.Author.Rules.{rules}
use native.Mathlib.Omega.{arith}
use Rattle.geometry.proofs.SizeLaws.{sum_begin, sum_step, tile_bytes_is}
use Rattle.geometry.proofs.sizes.tile_bytes.Goals as goal

pub loop-e-init : goal.loop-e-init
loop-e-init c = (omega arith, sum_begin _)

pub capped-sum-requires : goal.capped-sum-requires
capped-sum-requires c = (search (rules, under), search (rules, under))

pub loop-e-preserved : goal.loop-e-preserved
loop-e-preserved c = (omega arith, search (rules, sum_step))

pub returns : goal.returns
returns c = tile_bytes_is _ _ _ _ c.loop-e.invariant.0 (omega arith) (omega arith) c.loop-e.invariant.1
