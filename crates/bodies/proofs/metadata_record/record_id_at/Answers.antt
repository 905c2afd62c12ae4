-- `bodies::metadata_record::record_id_at` meets its contract. Assumes nothing.
use Rattle.bodies.proofs.MetadataLaws.{id_is}
use Rattle.bodies.proofs.metadata_record.record_id_at.Goals as goal

pub returns-clause-is : goal.returns-clause-is
returns-clause-is c = id_is _ _ _ c.string_size.ensures.is
