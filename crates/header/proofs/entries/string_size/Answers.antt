-- `header::entries::string_size` meets its contract. Assumes nothing.
use native.Mathlib.Omega.{arith}
use Rattle.header.proofs.EntryLaws.{size_is}
use Rattle.header.proofs.entries.string_size.Goals as goal

pub returns-clause-is : goal.returns-clause-is
returns-clause-is c = size_is _ _ _ (omega arith)
