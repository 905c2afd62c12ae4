-- `bodies::list_directories::metadata_entry_size` meets its contract. Assumes nothing.
use Rattle.bodies.proofs.CountLaws.{entry_size_is}
use Rattle.bodies.proofs.list_directories.metadata_entry_size.Goals as goal

pub returns-clause-is : goal.returns-clause-is
returns-clause-is c = entry_size_is _ _ _ c.u16_off.ensures.is
