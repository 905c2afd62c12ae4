-- The records' `next` meets its contract. Assumes nothing.
use Rattle.std.proofs.Common.{rules}
use native.Mathlib.Omega.{arith}
use Rattle.record.proofs.ChainLaws.{stepped}
use Rattle.record.proofs.TallyLaws.{tag_other}
use Rattle.record.proofs.WalkLaws.{walked_some, walked_none}
use Rattle.record.proofs.walk.RecordsIterator.next.Goals as goal

pub returns-in_default : goal.returns-in_default
returns-in_default c = record { steps = walked_none _ c.step.ensures (tag_other _ c.in_default.not-Record); goes = search rules }

pub returns-clause-steps : goal.returns-clause-steps
returns-clause-steps c = walked_some c.in-Record.is c.step.ensures

pub returns-clause-goes : goal.returns-clause-goes
returns-clause-goes c = let h = stepped c.in-Record.is c.step.ensures in record { on = λ z. (tt, z, omega (arith, h.next, h.before_end, h.is.long)); keeps = tt; rests = λ z. tt }
