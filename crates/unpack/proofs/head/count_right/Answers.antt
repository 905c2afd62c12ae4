-- `unpack::head::count_right` meets its contract. Assumes nothing.
use Rattle.unpack.proofs.HeadLaws.{count_is, count_bytes}
use native.Mathlib.Omega.{arith}
use Rattle.unpack.proofs.head.count_right.Goals as goal

pub returns-then-count-n : goal.returns-then-count-n
returns-then-count-n c = count_is _ _ _ (omega arith)

pub returns : goal.returns
returns c = count_bytes _ _ _ (λ h. omega arith)
