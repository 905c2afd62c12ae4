-- `check_header::header_record::frame_right` meets its contract. Assumes nothing.
use native.Mathlib.Omega.{arith}
use Rattle.wire.proofs.TestLaws.{no, yes, not_both}
use Rattle.check_header.specs.HeaderRecord.{frame_right}
use Rattle.check_header.proofs.header_record.frame_right.Goals as goal

pub returns-then-s-header_end : goal.returns-then-s-header_end
unfolding frame_right
returns-then-s-header_end c = no _ (λ h. omega arith)

pub returns-then-header_type-ne-HEADER : goal.returns-then-header_type-ne-HEADER
unfolding frame_right
returns-then-header_type-ne-HEADER c = no _ (λ h. omega arith)

pub returns-then-length_right : goal.returns-then-length_right
unfolding frame_right
returns-then-length_right c = yes _ (cc, (omega arith, (omega arith, tt)))

pub returns : goal.returns
unfolding frame_right
returns c = no _ (λ h. not_both h.0 (cc))
