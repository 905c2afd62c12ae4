-- `header::entries::string_end` meets its contract. Assumes nothing.
use native.Mathlib.Omega.{arith}
use Rattle.header.proofs.EntryLaws.{string_is}
use Rattle.header.proofs.entries.string_end.Goals as goal

pub returns-clause-is : goal.returns-clause-is
returns-clause-is c = string_is _ _ _ (omega arith)
