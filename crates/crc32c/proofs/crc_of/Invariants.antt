-- `crc32c::crc_of` meets its contract: the state, and the bytes that are still to come, give the whole. Assumes nothing.
use Prim.Native.Nat.{◌*◌}
use mathlib.Core.Path.{◌≡◌}
use Rattle.crc32c.specs.Crc.{crc_over}
use Rattle.crc32c.specs.inner.Ahead.{crc_from}
use Rattle.crc32c.proofs.crc_of.Given as goal

abbrev pub invariant-loop-bytes : goal.invariant-loop-bytes
invariant-loop-bytes l = crc_from l.c l.s (8 * l.bytes-index) ≡ crc_over 0xFFFF_FFFF l.s

abbrev pub invariant-loop-b : goal.invariant-loop-b
invariant-loop-b l = crc_from l.c l.rest l.b-index ≡ crc_over 0xFFFF_FFFF l.s
