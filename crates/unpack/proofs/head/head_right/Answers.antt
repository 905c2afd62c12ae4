-- `unpack::head::head_right` meets its contract. Assumes nothing.
use Rattle.unpack.proofs.HeadLaws.{head_not, head_last}
use native.Mathlib.Omega.{arith}
use Rattle.unpack.proofs.head.head_right.Goals as goal

pub returns-then-rows-lt1 : goal.returns-then-rows-lt1
returns-then-rows-lt1 c = head_not _ _ _ (λ h. omega arith)

pub returns-then-rows-gt4096 : goal.returns-then-rows-gt4096
returns-then-rows-gt4096 c = head_not _ _ _ (λ h. omega arith)

pub returns-then-columns-lt1 : goal.returns-then-columns-lt1
returns-then-columns-lt1 c = head_not _ _ _ (λ h. omega arith)

pub returns-then-columns-gt4096 : goal.returns-then-columns-gt4096
returns-then-columns-gt4096 c = head_not _ _ _ (λ h. omega arith)

pub returns-then-c-lt11 : goal.returns-then-c-lt11
returns-then-c-lt11 c = head_not _ _ _ (λ h. omega arith)

pub returns : goal.returns
returns c = head_last _ _ _ _ (omega arith) (omega arith) (omega arith) (omega arith) (omega arith) c.byte_at.ensures.is
