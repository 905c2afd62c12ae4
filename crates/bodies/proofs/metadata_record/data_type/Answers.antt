-- `bodies::metadata_record::data_type` meets its contract. Assumes nothing.
use Rattle.bodies.proofs.MetadataLaws.{data_type_is, type_past}
use native.Mathlib.Omega.{arith}
use borrow.Author.Rules.{rules}
use Rattle.bodies.proofs.metadata_record.data_type.Goals as goal

pub returns-then-s-at : goal.returns-then-s-at
returns-then-s-at c = type_past _ _ (omega arith)

pub returns : goal.returns
returns c = search (rules, data_type_is)
