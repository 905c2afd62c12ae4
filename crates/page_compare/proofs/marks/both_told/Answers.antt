-- `page_compare::marks::both_told` meets its contract. Assumes nothing.
use mathlib.Core.Path.{refl}
use Rattle.wire.proofs.TestLaws.{not_both}
use Rattle.page_compare.proofs.marks.both_told.Goals as goal

pub returns-then-held_kind-eq0 : goal.returns-then-held_kind-eq0
returns-then-held_kind-eq0 c = (λ e. not_both e refl)

pub returns-then-held_kind-eq0-2 : goal.returns-then-held_kind-eq0-2
returns-then-held_kind-eq0-2 c = (λ e. not_both e refl)
