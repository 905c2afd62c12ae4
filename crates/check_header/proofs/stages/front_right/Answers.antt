-- `check_header::stages::front_right` meets its contract. Assumes nothing.
use native.Mathlib.Omega.{arith}
use Rattle.wire.proofs.TestLaws.{no, yes, not_both}
use Rattle.check_header.specs.Stages.{front_right}
use Rattle.check_header.proofs.stages.front_right.Goals as goal

pub returns-then-header_end-s : goal.returns-then-header_end-s
unfolding front_right
returns-then-header_end-s c = no _ (λ h. omega arith)

pub returns-then-header_right : goal.returns-then-header_right
unfolding front_right
returns-then-header_right c = yes _ (cc, (omega arith, tt))

pub returns : goal.returns
unfolding front_right
returns c = no _ (λ h. not_both h.0 (cc))
