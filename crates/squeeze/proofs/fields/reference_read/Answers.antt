-- `squeeze::fields::reference_read` meets its contract. Assumes nothing.
use native.Mathlib.Omega.{arith}
use Rattle.squeeze.proofs.FieldLaws.{read_eight, read_four}
use Rattle.squeeze.proofs.fields.reference_read.Goals as goal

pub returns-then-w-eq8 : goal.returns-then-w-eq8
returns-then-w-eq8 c = read_eight _ _ _ (omega arith) c.u64_at.ensures

pub returns : goal.returns
returns c = read_four _ _ _ (λ z. omega arith) c.u32_at.ensures
