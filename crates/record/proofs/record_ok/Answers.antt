-- `record::record_ok` meets its contract. Assumes nothing.
use native.Mathlib.Omega.{arith}
use Rattle.wire.proofs.TestLaws.{no, yes}
use Rattle.record.specs.Record.{record_ok}
use Rattle.record.proofs.record_ok.Goals as goal

pub returns-then-n-lt16 : goal.returns-then-n-lt16
unfolding record_ok
returns-then-n-lt16 c = no _ (λ h. omega arith)

pub returns-then-n-gt-LARGEST_INTEGER : goal.returns-then-n-gt-LARGEST_INTEGER
unfolding record_ok
returns-then-n-gt-LARGEST_INTEGER c = no _ (λ h. omega arith)

pub returns-then-n-ne0 : goal.returns-then-n-ne0
unfolding record_ok
returns-then-n-ne0 c = no _ (λ h. omega arith)

pub returns-then-s-length : goal.returns-then-s-length
unfolding record_ok
returns-then-s-length c = no _ (λ h. omega arith)

pub returns-then-s-length-2 : goal.returns-then-s-length-2
unfolding record_ok
returns-then-s-length-2 c = no _ (λ h. omega arith)

pub returns-then-byte_off-gt-TILE_DIRECTORY : goal.returns-then-byte_off-gt-TILE_DIRECTORY
unfolding record_ok
returns-then-byte_off-gt-TILE_DIRECTORY c = no _ (λ h. omega arith)

pub returns : goal.returns
unfolding record_ok
returns c = yes _ (omega arith)
