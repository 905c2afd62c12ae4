-- `check_records::metadata_body::metadata_right` meets its contract. Assumes nothing.
use native.Mathlib.Omega.{arith}
use Rattle.wire.proofs.TestLaws.{no, not_both, either_way}
use Rattle.check_records.specs.MetadataBody.{metadata_right}
use Rattle.check_records.proofs.RecordLaws.{metadata_past, told, end_told, description_told}
use borrow.Author.Rules.{rules}
use Rattle.check_records.proofs.metadata_body.metadata_right.Goals as goal

pub returns-then-s-at : goal.returns-then-s-at
unfolding metadata_right
returns-then-s-at c = metadata_past _ _ (omega arith)

pub returns-then-metadata_length-gt-LARGEST_INTEGER : goal.returns-then-metadata_length-gt-LARGEST_INTEGER
unfolding metadata_right
returns-then-metadata_length-gt-LARGEST_INTEGER c = no _ (λ h. omega arith)

pub returns-then-data_type-gt9 : goal.returns-then-data_type-gt9
unfolding metadata_right
returns-then-data_type-gt9 c = no _ (λ h. omega arith)

pub returns-then-name_right : goal.returns-then-name_right
unfolding metadata_right
returns-then-name_right c = either_way _ _
    (λ g. (omega arith, (search (rules, end_told), (search (rules, told), (omega arith, (description_told _ _ _ _ _ c.description_at.ensures.is c.text_right.ensures g, tt))))))
    (λ g h. not_both h.1.1.1.1.0 (description_told _ _ _ _ _ c.description_at.ensures.is c.text_right.ensures g))

pub returns-else-name_right : goal.returns-else-name_right
unfolding metadata_right
returns-else-name_right c = no _ (λ h. not_both h.1.1.0 (search (rules, told)))

pub returns-else-end_right : goal.returns-else-end_right
unfolding metadata_right
returns-else-end_right c = no _ (λ h. not_both h.1.0 (search (rules, end_told)))
