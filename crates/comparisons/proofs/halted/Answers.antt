-- `comparisons::halted` meets its contract. Assumes nothing.
use Rattle.comparisons.proofs.CellLaws.{halted_none, halted_first, halted_second}
use Rattle.comparisons.proofs.halted.Goals as goal

pub returns-in-None : goal.returns-in-None
returns-in-None c = halted_none _ c.in-None.is

pub returns-in-First : goal.returns-in-First
returns-in-First c = halted_first _ _ c.in-First.is

pub returns-in-Second : goal.returns-in-Second
returns-in-Second c = halted_second _ _ c.in-Second.is
