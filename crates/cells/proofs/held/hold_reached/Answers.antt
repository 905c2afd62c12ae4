-- `cells::held::hold_reached` meets its contract. Assumes nothing.
use Rattle.cells.proofs.HeldLaws.{held_none, held_at, held_past}
use Rattle.cells.proofs.held.hold_reached.Goals as goal

pub returns-then-x-s : goal.returns-then-x-s
returns-then-x-s c = let all_of = held_at _ _ _ _ _ _ _ _ _ _ c.in-Some.is c.if-x-s.true c.hold_in.ensures.is c.hold_in.ensures.holds in record { is = all_of.0; holds = all_of.1 }

pub returns-in-None : goal.returns-in-None
returns-in-None c = let all_of = held_none _ _ _ _ _ _ _ c.in-None.is in record { is = all_of.0; holds = all_of.1 }

pub returns-else-x-s : goal.returns-else-x-s
returns-else-x-s c = let all_of = held_past _ _ _ _ _ _ _ _ c.in-Some.is c.if-x-s.false in record { is = all_of.0; holds = all_of.1 }
