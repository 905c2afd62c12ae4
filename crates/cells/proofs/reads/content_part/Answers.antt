-- `cells::reads::content_part` meets its contract. Assumes nothing.
use Rattle.cells.proofs.ReadLaws.{part_is, offset_at}
use Rattle.cells.proofs.reads.content_part.Goals as goal

pub returns-clause-holds : goal.returns-clause-holds
returns-clause-holds c = part_is _ _ _ _ _ _ c.content-x.ensures c.content_place.ensures c.content_length.ensures c.part_of.ensures.holds

pub returns-clause-block : goal.returns-clause-block
returns-clause-block c = c.part_of.ensures.block

pub returns-clause-offset : goal.returns-clause-offset
returns-clause-offset c = offset_at _ _ _ _ _ _ _ c.content-x.ensures c.content_place.ensures c.content_length.ensures c.part_of.ensures.offset
