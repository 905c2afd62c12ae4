-- `bodies::tile_directory::in_rectangle` meets its contract. Assumes nothing.
use Rattle.wire.proofs.TestLaws.{no, either_way, not_both}
use Rattle.bodies.specs.TileDirectory.{in_rectangle}
use Rattle.bodies.proofs.DirectoryLaws.{in_span_told}
use borrow.Author.Rules.{rules}
use Rattle.bodies.proofs.tile_directory.in_rectangle.Goals as goal

pub returns-then-in_span : goal.returns-then-in_span
unfolding in_rectangle
returns-then-in_span c = either_way _ _ (λ e. (search (rules, in_span_told), (search (rules, in_span_told), tt))) (λ e h. not_both h.1.0 (search (rules, in_span_told)))

pub returns : goal.returns
unfolding in_rectangle
returns c = no _ (λ h. not_both h.0 (search (rules, in_span_told)))
