-- `says::further::label_start` meets its contract. Assumes nothing.
use Rattle.header.proofs.EntryLaws.{label_is}
use Rattle.says.proofs.further.label_start.Goals as goal

pub returns-clause-is : goal.returns-clause-is
returns-clause-is c = label_is _ _ _ _ c.block_start-block.ensures.is cc
