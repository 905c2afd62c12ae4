-- `store::reads::content_from` meets its contract. Assumes nothing.
use Rattle.cells.proofs.ReadLaws.{part_is, offset_at}
use Rattle.store.proofs.reads.content_from.Goals as goal

pub returns-clause-held : goal.returns-clause-held
returns-clause-held c = part_is _ _ _ _ _ _ c.content_at-x.ensures.held c.content_place.ensures c.content_length.ensures c.part_of.ensures.holds

pub returns-clause-plain : goal.returns-clause-plain
returns-clause-plain c = part_is _ _ _ _ _ _ c.content_at-x.ensures.plain c.content_place.ensures c.content_length.ensures c.part_of.ensures.holds

pub returns-clause-block : goal.returns-clause-block
returns-clause-block c = c.part_of.ensures.block

pub returns-clause-offset : goal.returns-clause-offset
returns-clause-offset c = offset_at _ _ _ _ _ _ _ c.content_at-x.ensures.plain c.content_place.ensures c.content_length.ensures c.part_of.ensures.offset
