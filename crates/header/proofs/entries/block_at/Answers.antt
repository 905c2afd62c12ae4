-- `header::entries::block_at` meets its contract. Assumes nothing.
use native.Mathlib.Omega.{arith}
use Rattle.header.specs.Element.{block_at}
use Rattle.header.proofs.entries.block_at.Goals as goal

pub returns : goal.returns
unfolding block_at
returns c = omega arith
