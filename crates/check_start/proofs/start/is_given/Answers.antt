-- `check_header::start::is_given` meets its contract. Assumes nothing.
use native.Mathlib.Omega.{arith}
use Rattle.wire.proofs.TestLaws.{no, yes}
use Rattle.check_start.specs.Start.{given}
use Rattle.check_start.proofs.start.is_given.Goals as goal

pub returns-then-s-length : goal.returns-then-s-length
unfolding given
returns-then-s-length c = no _ (λ h. omega arith)

pub returns-else-s-length : goal.returns-else-s-length
unfolding given
returns-else-s-length c = yes _ (omega arith)

pub returns-else-s-k : goal.returns-else-s-k
unfolding given
returns-else-s-k c = yes _ (omega arith)
