-- `stores::first_of` meets its contract. Assumes nothing.
use native.Mathlib.Omega.{arith}
use Rattle.stores.proofs.WriteLaws.{first_all, first_some}
use Rattle.stores.proofs.first_of.Goals as goal

pub returns-then-n-k : goal.returns-then-n-k
returns-then-n-k c = first_all _ _ _ c.part_of.ensures.holds (omega arith) (omega arith)

pub returns : goal.returns
returns c = first_some _ _ c.part_of-2.ensures.holds (omega arith)
