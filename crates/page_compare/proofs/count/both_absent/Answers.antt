-- `page_compare::count::both_absent` meets its contract. Assumes nothing.
use mathlib.Core.Path.{refl, sym, ◌∙◌}
use Rattle.wire.proofs.TestLaws.{not_both}
use borrow.Author.Tests.{eqb-true}
use Rattle.page_compare.proofs.count.both_absent.Goals as goal

pub returns-then-held_kind-eq33 : goal.returns-then-held_kind-eq33
returns-then-held_kind-eq33 c = λ z. (sym c.held_kind.ensures ∙ c.if-held_kind-eq33.true, sym c.held_kind-then-held_kind-eq33.ensures ∙ eqb-true _ _ z)

pub returns : goal.returns
returns c = λ z. not_both z refl
