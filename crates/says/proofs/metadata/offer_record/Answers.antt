-- `says::metadata::offer_record` meets its contract. Assumes nothing.
use Rattle.says.proofs.MetadataLaws.{record_none, record_none_to, record_some, record_some_to}
use Rattle.says.proofs.metadata.offer_record.Goals as goal

pub returns-then-byte_off-ne-METADATA-clause-is : goal.returns-then-byte_off-ne-METADATA-clause-is
returns-then-byte_off-ne-METADATA-clause-is c = record_none _ _ _ _ c.byte_off.ensures.is _ c.if-byte_off-ne-METADATA.true

pub returns-then-byte_off-ne-METADATA-clause-numbers : goal.returns-then-byte_off-ne-METADATA-clause-numbers
returns-then-byte_off-ne-METADATA-clause-numbers c = record_none_to _ _ _ _ c.byte_off.ensures.is _ c.if-byte_off-ne-METADATA.true

pub offer-requires : goal.offer-requires
offer-requires c = c.requires.1

pub returns-clause-is : goal.returns-clause-is
returns-clause-is c = record_some _ _ _ _ c.byte_off.ensures.is _ _ _ c.if-byte_off-ne-METADATA.false c.record_item-item.ensures c.offer.ensures.is

pub returns-clause-numbers : goal.returns-clause-numbers
returns-clause-numbers c = record_some_to _ _ _ _ c.byte_off.ensures.is _ _ _ c.if-byte_off-ne-METADATA.false c.record_item-item.ensures c.offer.ensures.numbers
