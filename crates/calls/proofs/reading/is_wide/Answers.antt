-- `calls::reading::is_wide` meets its contract. Assumes nothing.
use native.Mathlib.Omega.{arith}
use Rattle.calls.proofs.ReadLaws.{wide_not, wide_yes}
use Rattle.calls.proofs.reading.is_wide.Goals as goal

pub returns-then-reference_size-ne8 : goal.returns-then-reference_size-ne8
returns-then-reference_size-ne8 c = wide_not _ _ c.reference_size.ensures (λ z. omega arith)

pub returns : goal.returns
returns c = wide_yes _ _ c.reference_size.ensures (omega arith)
