-- `fronts::sides::is_side` meets its contract. Assumes nothing.
use native.Mathlib.Omega.{arith}
use Rattle.wire.proofs.TestLaws.{no, yes}
use Rattle.check_header.specs.HeaderRecord.{positive}
use Rattle.fronts.proofs.sides.is_side.Goals as goal

pub returns-then-x-lt1 : goal.returns-then-x-lt1
unfolding positive
returns-then-x-lt1 c = no _ (λ h. omega arith)

pub returns-then-x-gt-LARGEST_INTEGER : goal.returns-then-x-gt-LARGEST_INTEGER
unfolding positive
returns-then-x-gt-LARGEST_INTEGER c = no _ (λ h. omega arith)

pub returns : goal.returns
unfolding positive
returns c = yes _ (omega arith)
