-- `fronts::counts::counts_right` meets its contract. Assumes nothing.
use native.Mathlib.Omega.{arith}
use Rattle.wire.proofs.TestLaws.{no, yes}
use Rattle.fronts.specs.Writing.{counts_right}
use Rattle.fronts.proofs.counts.counts_right.Goals as goal

pub returns-then-page-lt6 : goal.returns-then-page-lt6
unfolding counts_right
returns-then-page-lt6 c = no _ (λ h. omega arith)

pub returns-then-uuid-ne16 : goal.returns-then-uuid-ne16
unfolding counts_right
returns-then-uuid-ne16 c = no _ (λ h. omega arith)

pub returns-then-elements-ne0 : goal.returns-then-elements-ne0
unfolding counts_right
returns-then-elements-ne0 c = no _ (λ h. omega arith)

pub returns-then-elements-gt-MOST_FILE_BYTES : goal.returns-then-elements-gt-MOST_FILE_BYTES
unfolding counts_right
returns-then-elements-gt-MOST_FILE_BYTES c = no _ (λ h. omega arith)

pub returns-then-page-gt-MOST_FILE_BYTES : goal.returns-then-page-gt-MOST_FILE_BYTES
unfolding counts_right
returns-then-page-gt-MOST_FILE_BYTES c = no _ (λ h. omega arith)

pub returns-then-number_in-gt-LONGEST_STRING : goal.returns-then-number_in-gt-LONGEST_STRING
unfolding counts_right
returns-then-number_in-gt-LONGEST_STRING c = no _ (λ h. omega arith)

pub returns : goal.returns
unfolding counts_right
returns c = yes _ (omega arith)
