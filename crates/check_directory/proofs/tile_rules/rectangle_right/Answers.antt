-- `check_directory::tile_rules::rectangle_right` meets its contract. Assumes nothing.
use Rattle.wire.proofs.TestLaws.{no, either_way, not_both}
use Rattle.check_directory.specs.TileRules.{rectangle_right}
use Rattle.check_directory.proofs.TileLaws.{told}
use borrow.Author.Rules.{rules}
use Rattle.check_directory.proofs.tile_rules.rectangle_right.Goals as goal

pub returns-then-rows_right : goal.returns-then-rows_right
unfolding rectangle_right
returns-then-rows_right c = either_way _ _ (λ e. (search (rules, told), (search (rules, told), tt))) (λ e h. not_both h.1.0 (search (rules, told)))

pub returns : goal.returns
unfolding rectangle_right
returns c = no _ (λ h. not_both h.0 (search (rules, told)))
