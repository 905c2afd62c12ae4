-- `check_records::ends::end_right` meets its contract. Assumes nothing.
use native.Mathlib.Omega.{arith}
use Rattle.wire.proofs.TestLaws.{no, yes}
use Rattle.geometry.specs.Sizes.{least_length}
use Rattle.check_records.specs.Frame.{end_right}
use Rattle.check_records.proofs.ends.end_right.Goals as goal

pub returns-then-record_limit-end : goal.returns-then-record_limit-end
unfolding end_right least_length
returns-then-record_limit-end c = no _ (λ h. omega arith)

pub returns-then-n-gt-LARGEST_LENGTH : goal.returns-then-n-gt-LARGEST_LENGTH
unfolding end_right least_length
returns-then-n-gt-LARGEST_LENGTH c = no _ (λ h. omega arith)

pub returns-then-least_length-length : goal.returns-then-least_length-length
unfolding end_right least_length
returns-then-least_length-length c = no _ (λ h. omega arith)

pub returns : goal.returns
unfolding end_right least_length
returns c = yes _ (omega arith, (omega arith, tt))
