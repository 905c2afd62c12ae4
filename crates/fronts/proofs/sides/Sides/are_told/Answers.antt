-- `fronts::sides::Sides::are_told` meets its contract. Assumes nothing.
use Rattle.wire.proofs.TestLaws.{no, either_way, not_both}
use Rattle.fronts.specs.Judged.{sides_told}
use Rattle.fronts.proofs.sides.Sides.are_told.Goals as goal

pub returns-then-is_side-3 : goal.returns-then-is_side-3
unfolding sides_told
returns-then-is_side-3 c = either_way _ _ (λ e. (cc, (cc, (cc, (cc, tt))))) (λ e h. not_both h.1.1.1.0 (cc))

pub returns-else-is_side-3 : goal.returns-else-is_side-3
unfolding sides_told
returns-else-is_side-3 c = no _ (λ h. not_both h.1.1.0 (cc))

pub returns-else-is_side-2 : goal.returns-else-is_side-2
unfolding sides_told
returns-else-is_side-2 c = no _ (λ h. not_both h.1.0 (cc))

pub returns-else-is_side : goal.returns-else-is_side
unfolding sides_told
returns-else-is_side c = no _ (λ h. not_both h.0 (cc))
