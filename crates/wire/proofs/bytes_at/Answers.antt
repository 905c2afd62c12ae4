-- `wire::bytes_at` meets its contract. Assumes nothing.
use Rattle.wire.proofs.StdLaws.{chunk_lowest, chunk_highest, none_lowest, none_highest}
use Rattle.wire.proofs.bytes_at.Goals as goal

pub returns-in-Some-clause-lowest_first : goal.returns-in-Some-clause-lowest_first
returns-in-Some-clause-lowest_first g c = chunk_lowest _ _ _ c.part_of.ensures.holds c.in-Some.ensures.cases

pub returns-in-Some-clause-highest_first : goal.returns-in-Some-clause-highest_first
returns-in-Some-clause-highest_first g c = chunk_highest _ _ _ c.part_of.ensures.holds c.in-Some.ensures.cases

pub returns-in-None-clause-lowest_first : goal.returns-in-None-clause-lowest_first
returns-in-None-clause-lowest_first g c = none_lowest _ _ _ c.part_of.ensures.holds c.in-None.ensures.cases

pub returns-in-None-clause-highest_first : goal.returns-in-None-clause-highest_first
returns-in-None-clause-highest_first g c = none_highest _ _ _ c.part_of.ensures.holds c.in-None.ensures.cases
