-- `check_header::header_record::length_right` meets its contract. Assumes nothing.
use native.Mathlib.Omega.{arith}
use Rattle.wire.proofs.TestLaws.{no, yes}
use Rattle.check_header.specs.HeaderRecord.{length_right}
use Rattle.check_header.proofs.header_record.length_right.Goals as goal

pub returns-then-n-ne0 : goal.returns-then-n-ne0
unfolding length_right
returns-then-n-ne0 c = no _ (λ h. omega arith)

pub returns-then-n-gt-LARGEST_INTEGER : goal.returns-then-n-gt-LARGEST_INTEGER
unfolding length_right
returns-then-n-gt-LARGEST_INTEGER c = no _ (λ h. omega arith)

pub returns-then-length-header_end : goal.returns-then-length-header_end
unfolding length_right
returns-then-length-header_end c = no _ (λ h. omega arith)

pub returns : goal.returns
unfolding length_right
returns c = yes _ (omega arith)
