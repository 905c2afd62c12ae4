-- `says::methods::next_name` meets its contract. Assumes nothing.
use native.Mathlib.Omega.{arith}
use Rattle.says.proofs.MethodLaws.{name_beyond, name_in}
use Rattle.says.proofs.methods.next_name.Goals as goal

pub returns-then-header_limit-at-clause-is : goal.returns-then-header_limit-at-clause-is
returns-then-header_limit-at-clause-is c = name_beyond _ _ _ c.header_limit.ensures.is (omega arith)

pub returns-clause-is : goal.returns-clause-is
returns-clause-is c = name_in _ _ _ _ c.header_limit.ensures.is (omega arith) c.string_size.ensures.is
