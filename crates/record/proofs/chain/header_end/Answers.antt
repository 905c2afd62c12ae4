-- `record::chain::header_end` meets its contract. Assumes nothing.
use native.Mathlib.Omega.{arith}
use Rattle.record.specs.Chain.{header_end}
use Rattle.record.proofs.chain.header_end.Goals as goal

pub returns : goal.returns
unfolding header_end
returns c = omega arith
