-- `crc32c::byte_without` meets its contract. Assumes nothing.
use native.Mathlib.Omega.{arith}
use Rattle.crc32c.proofs.Without.{without_outside, without_before, without_behind, without_within}
use Rattle.crc32c.proofs.byte_without.Goals as goal

pub returns-then-s-to : goal.returns-then-s-to
returns-then-s-to c = without_outside _ _ _ _ c.byte_at.ensures.is (omega arith)

pub returns-then-i-from : goal.returns-then-i-from
returns-then-i-from c = without_before _ _ _ _ c.byte_at-then-i-from.ensures.is (omega arith)

pub returns-then-i-to : goal.returns-then-i-to
returns-then-i-to c = without_within _ _ _ _ (omega arith) (omega arith) (omega arith)

pub returns : goal.returns
returns c = without_behind _ _ _ _ c.byte_at-2.ensures.is (omega arith) (omega arith)
