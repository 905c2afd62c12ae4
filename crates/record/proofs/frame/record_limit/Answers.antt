-- `record::frame::record_limit` meets its contract. Assumes nothing.
use native.Mathlib.Omega.{arith}
use Rattle.record.specs.Record.{record_limit}
use Rattle.record.proofs.frame.record_limit.Goals as goal

pub returns-then-s-lt4 : goal.returns-then-s-lt4
unfolding record_limit
returns-then-s-lt4 c = omega arith

pub returns-then-s-at : goal.returns-then-s-at
unfolding record_limit
returns-then-s-at c = omega arith

pub returns-then-s-at-2 : goal.returns-then-s-at-2
unfolding record_limit
returns-then-s-at-2 c = omega arith

pub returns-then-at-n-lt4 : goal.returns-then-at-n-lt4
unfolding record_limit
returns-then-at-n-lt4 c = omega arith

pub returns : goal.returns
unfolding record_limit
returns c = omega arith
