-- `says::metadata::record_item` meets its contract. Assumes nothing.
use Rattle.says.proofs.MetadataLaws.{record_item}
use Rattle.says.proofs.metadata.record_item.Goals as goal

pub returns : goal.returns
returns c = record_item _ _ _ c.requires c.record_id_start-at.ensures.is _ _ _ _ _ c.u16_off-name_length.ensures.is c.record_id-id.ensures c.data_type-kind.ensures c.u32_off-n.ensures c.u16_at-description_length.ensures.is
