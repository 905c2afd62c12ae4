-- `crc32c::crc_without` meets its contract: the state, and the bytes that are still to come, give the whole. Assumes nothing.
use Prim.Native.Nat.{◌+◌, ◌≤◌}
use mathlib.Core.Path.{◌≡◌}
use lib.ListN.{length}
use Rattle.crc32c.specs.Crc.{crc_over}
use Rattle.crc32c.specs.inner.Ahead.{crc_from, part_without}
use Rattle.crc32c.proofs.crc_without.Given as goal

abbrev pub invariant-loop-i : goal.invariant-loop-i
invariant-loop-i l =
    (l.at + l.n ≤ length l.s) × (crc_from l.c (part_without l.s l.at l.n l.from l.to) l.i ≡ crc_over 0xFFFF_FFFF (part_without l.s l.at l.n l.from l.to))
