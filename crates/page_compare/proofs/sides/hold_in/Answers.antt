-- `page_compare::sides::hold_in` meets its contract. Assumes nothing.
use Rattle.page_compare.proofs.SideLaws.{part_held}
use Rattle.page_compare.proofs.sides.hold_in.Goals as goal

pub returns : goal.returns
returns c = let all_of = part_held _ _ _ _ c.requires.0 c.requires.1 c.hold_lent.auto.memory _ _ _ _ _ c.hold_lent.ensures.holds in record { changed = all_of.0; holds = all_of.1 }
