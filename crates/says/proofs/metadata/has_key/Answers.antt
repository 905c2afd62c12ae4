-- `says::metadata::has_key` meets its contract. Assumes nothing.
use Rattle.says.proofs.MetadataLaws.{other_id_lem, of_id}
use Rattle.says.proofs.metadata.has_key.Goals as goal

pub returns-then-record_id-id : goal.returns-then-record_id-id
returns-then-record_id-id c = of_id _ _ _ _ _ c.record_id.ensures _ _ c.if-record_id-id.true c.metadata_name.ensures.holds c.same_bytes.ensures

pub returns : goal.returns
returns c = other_id_lem _ _ _ _ _ c.record_id.ensures c.if-record_id-id.false
