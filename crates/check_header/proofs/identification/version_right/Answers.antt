-- `check_header::identification::version_right` meets its contract. Assumes nothing.
use native.Mathlib.Omega.{arith}
use Rattle.wire.proofs.TestLaws.{no, yes}
use Rattle.check_header.specs.Identification.{version_right}
use Rattle.check_header.proofs.identification.version_right.Goals as goal

pub returns-then-byte_at-ne1 : goal.returns-then-byte_at-ne1
unfolding version_right
returns-then-byte_at-ne1 c = no _ (λ h. omega arith)

pub returns-then-byte_at-ne4 : goal.returns-then-byte_at-ne4
unfolding version_right
returns-then-byte_at-ne4 c = no _ (λ h. omega arith)

pub returns : goal.returns
unfolding version_right
returns c = yes _ (omega arith)
