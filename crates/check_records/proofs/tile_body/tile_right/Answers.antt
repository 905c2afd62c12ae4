-- `check_records::tile_body::tile_right` meets its contract. Assumes nothing.
use native.Mathlib.Omega.{arith}
use Rattle.wire.proofs.TestLaws.{no, either_way, not_both}
use Rattle.check_records.specs.TileBody.{tile_right}
use Rattle.check_records.proofs.RecordLaws.{tile_past, told, all_told}
use borrow.Author.Rules.{rules}
use Rattle.check_records.proofs.tile_body.tile_right.Goals as goal

pub returns-then-s-at : goal.returns-then-s-at
unfolding tile_right
returns-then-s-at c = tile_past _ _ (omega arith)

pub returns-then-sections_end_right : goal.returns-then-sections_end_right
unfolding tile_right
returns-then-sections_end_right c = either_way _ _ (λ e. (search (rules, told), (search (rules, told), (search (rules, all_told), tt)))) (λ e h. not_both h.1.1.0 (search (rules, all_told)))

pub returns-else-sections_end_right : goal.returns-else-sections_end_right
unfolding tile_right
returns-else-sections_end_right c = no _ (λ h. not_both h.1.0 (search (rules, told)))

pub returns-else-index_right : goal.returns-else-index_right
unfolding tile_right
returns-else-index_right c = no _ (λ h. not_both h.0 (search (rules, told)))
