-- `squeeze::records::width_at` meets its contract. Assumes nothing.
use native.Mathlib.Omega.{arith}
use Rattle.squeeze.proofs.DirectoryLaws.{width_eight, width_four}
use Rattle.squeeze.proofs.records.width_at.Goals as goal

pub returns-then-standard_references-eq1 : goal.returns-then-standard_references-eq1
returns-then-standard_references-eq1 c = width_eight _ _ c.standard_references.ensures (omega arith)

pub returns : goal.returns
returns c = width_four _ _ c.standard_references.ensures (λ z. omega arith)
