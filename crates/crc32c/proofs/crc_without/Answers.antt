-- `crc32c::crc_without` meets its contract: the state, and the bytes that are still to come, give the whole. Assumes nothing.
use native.Mathlib.Omega.{arith}
use mathlib.Core.Path.{◌∙◌}
use Rattle.crc32c.specs.Crc.{crc_byte}
use Rattle.crc32c.specs.inner.Ahead.{over_bits}
use Rattle.crc32c.proofs.Loop.{from_start}
use Rattle.crc32c.proofs.Without.{without_out, without_more, without_all}
use Rattle.crc32c.proofs.crc_without.Goals as goal

pub returns-then-s-n : goal.returns-then-s-n
returns-then-s-n c = without_out _ _ _ _ _ (omega arith)

pub returns-then-s-n-2 : goal.returns-then-s-n-2
returns-then-s-n-2 c = without_out _ _ _ _ _ (omega arith)

pub loop-i-init : goal.loop-i-init
loop-i-init c = (omega arith, from_start _ _)

pub loop-i-preserved : goal.loop-i-preserved
unfolding crc_byte over_bits
loop-i-preserved c = (
  omega arith,
  without_more _ _ _ _ _ (omega arith) _ _ _ _ c.byte_without.ensures c.one-c.ensures (omega arith)
      ∙ c.loop-i.invariant.1,
)

pub returns : goal.returns
returns c = without_all _ _ _ _ _ (omega arith) _ _ c.loop-i.invariant.1 (omega arith)
