-- `check_records::checksum::checksum_right` meets its contract. Assumes nothing.
use native.Mathlib.Omega.{arith}
use Rattle.wire.proofs.TestLaws.{yes, no}
use Rattle.check_records.specs.Checksum.{checksum_right}
use Rattle.check_records.proofs.checksum.checksum_right.Goals as goal

pub returns-then-checksum_at-checksum_of : goal.returns-then-checksum_at-checksum_of
unfolding checksum_right
returns-then-checksum_at-checksum_of c = no _ (λ h. omega arith)

pub returns : goal.returns
unfolding checksum_right
returns c = yes _ (omega arith, tt)
