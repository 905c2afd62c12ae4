-- `fronts::counts::method_short` meets its contract. Assumes nothing.
use native.Mathlib.Omega.{arith}
use Rattle.wire.proofs.TestLaws.{no, yes}
use Rattle.fronts.specs.Given.{method_length, method_short}
use Rattle.fronts.proofs.counts.method_short.Goals as goal

pub returns-then-number_in-gt-LONGEST_STRING : goal.returns-then-number_in-gt-LONGEST_STRING
unfolding method_short method_length
returns-then-number_in-gt-LONGEST_STRING c = no _ (λ h. omega arith)

pub returns : goal.returns
unfolding method_short method_length
returns c = yes _ (omega arith)
