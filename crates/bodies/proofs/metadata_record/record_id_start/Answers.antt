-- `bodies::metadata_record::record_id_start` meets its contract. Assumes nothing.
use native.Mathlib.Omega.{arith}
use Rattle.bodies.proofs.MetadataLaws.{id_none, id_start}
use Rattle.bodies.proofs.metadata_record.record_id_start.Goals as goal

pub returns-then-s-at-clause-is : goal.returns-then-s-at-clause-is
returns-then-s-at-clause-is c = id_none _ _ (omega arith)

pub returns-clause-is : goal.returns-clause-is
returns-clause-is c = id_start _ _ _ (omega arith) c.record_id_at.ensures.is

pub returns-clause-near : goal.returns-clause-near
returns-clause-near c = c.record_id_at.ensures.near
