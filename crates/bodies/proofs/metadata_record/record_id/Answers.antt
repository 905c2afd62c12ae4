-- `bodies::metadata_record::record_id` meets its contract. Assumes nothing.
use native.Mathlib.Omega.{arith}
use Rattle.bodies.proofs.MetadataLaws.{id_past, record_id_is}
use borrow.Author.Rules.{rules}
use Rattle.bodies.proofs.metadata_record.record_id.Goals as goal

pub returns-then-s-at : goal.returns-then-s-at
returns-then-s-at c = id_past _ _ (omega arith)

pub returns : goal.returns
returns c = search (rules, record_id_is)
