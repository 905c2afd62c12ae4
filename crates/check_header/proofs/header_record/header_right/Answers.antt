-- `check_header::header_record::header_right` meets its contract. Assumes nothing.
use Rattle.check_header.proofs.HeaderLaws.{told}
use Rattle.wire.proofs.TestLaws.{no, either_way, not_both}
use Rattle.check_header.specs.HeaderRecord.{header_right}
use borrow.Author.Rules.{rules}
use Rattle.check_header.proofs.header_record.header_right.Goals as goal

pub returns-then-elements_right : goal.returns-then-elements_right
unfolding header_right
returns-then-elements_right c = either_way _ _ (λ e. (search (rules, told), (search (rules, told), (search (rules, told), (search (rules, told), (search (rules, told), tt)))))) (λ e h. not_both h.1.1.1.1.0 (search (rules, told)))

pub returns-else-elements_right : goal.returns-else-elements_right
unfolding header_right
returns-else-elements_right c = no _ (λ h. not_both h.1.1.1.0 (search (rules, told)))

pub returns-else-options_right : goal.returns-else-options_right
unfolding header_right
returns-else-options_right c = no _ (λ h. not_both h.1.1.0 (search (rules, told)))

pub returns-else-sides_right : goal.returns-else-sides_right
unfolding header_right
returns-else-sides_right c = no _ (λ h. not_both h.1.0 (search (rules, told)))

pub returns-else-frame_right : goal.returns-else-frame_right
unfolding header_right
returns-else-frame_right c = no _ (λ h. not_both h.0 (search (rules, told)))
