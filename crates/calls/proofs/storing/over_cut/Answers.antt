-- `calls::storing::over_cut` meets its contract. Assumes nothing.
use native.Mathlib.Omega.{arith}
use Rattle.stores.proofs.JoinLaws.{ran, told}
use Rattle.calls.proofs.StoreLaws.{over_done}
use Rattle.calls.proofs.storing.over_cut.Goals as goal

pub overflow_cast-count : goal.overflow_cast-count
overflow_cast-count c = omega (arith, c.entries_read-count.ensures.few)

pub overflow_cast-x : goal.overflow_cast-x
overflow_cast-x c = omega (arith, c.requires.1)

pub returns : goal.returns
returns c = let all_of = told (over_done _ _ _ _ c.part_of-s.ensures.holds c.checksum_enabled-flag.ensures c.u32_at-long.ensures c.entries_read-count.ensures.is c.requires.0 (ran (c.put_over_cut.ensures.left, c.put_over_cut.ensures.holds))) in record { left = all_of.0; holds = all_of.1 }
