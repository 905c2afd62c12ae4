-- `check_header::header_record::sides_right` meets its contract. Assumes nothing.
use Rattle.wire.proofs.TestLaws.{no, either_way, not_both}
use Rattle.check_header.specs.HeaderRecord.{sides_right}
use Rattle.check_header.proofs.header_record.sides_right.Goals as goal

pub returns-then-is_positive-3 : goal.returns-then-is_positive-3
unfolding sides_right
returns-then-is_positive-3 c = either_way _ _ (λ e. (cc, (cc, (cc, (cc, tt))))) (λ e h. not_both h.1.1.1.0 (cc))

pub returns-else-is_positive-3 : goal.returns-else-is_positive-3
unfolding sides_right
returns-else-is_positive-3 c = no _ (λ h. not_both h.1.1.0 (cc))

pub returns-else-is_positive-2 : goal.returns-else-is_positive-2
unfolding sides_right
returns-else-is_positive-2 c = no _ (λ h. not_both h.1.0 (cc))

pub returns-else-is_positive : goal.returns-else-is_positive
unfolding sides_right
returns-else-is_positive c = no _ (λ h. not_both h.0 (cc))
