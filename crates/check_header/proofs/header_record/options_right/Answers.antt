-- `check_header::header_record::options_right` meets its contract. Assumes nothing.
use native.Mathlib.Omega.{arith}
use Rattle.wire.proofs.TestLaws.{no, yes}
use Rattle.check_header.specs.HeaderRecord.{options_right}
use Rattle.check_header.proofs.header_record.options_right.Goals as goal

pub returns-then-checksum_enabled-gt1 : goal.returns-then-checksum_enabled-gt1
unfolding options_right
returns-then-checksum_enabled-gt1 c = no _ (λ h. omega arith)

pub returns-then-raster_space-gt2 : goal.returns-then-raster_space-gt2
unfolding options_right
returns-then-raster_space-gt2 c = no _ (λ h. omega arith)

pub returns-then-coordinate_system-gt2 : goal.returns-then-coordinate_system-gt2
unfolding options_right
returns-then-coordinate_system-gt2 c = no _ (λ h. omega arith)

pub returns : goal.returns
unfolding options_right
returns c = yes _ (omega arith)
