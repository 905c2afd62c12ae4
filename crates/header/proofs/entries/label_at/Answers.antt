-- `header::entries::label_at` meets its contract. Assumes nothing.
use native.Mathlib.Omega.{arith}
use Rattle.header.proofs.EntryLaws.{label_is}
use Rattle.header.proofs.entries.label_at.Goals as goal

pub returns-clause-is : goal.returns-clause-is
returns-clause-is c = label_is _ _ _ _ (omega arith) (cc)
