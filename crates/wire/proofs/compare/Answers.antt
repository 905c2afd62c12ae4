-- `wire::compare` meets its contract. Assumes nothing.
use Rattle.wire.proofs.CompareLaws.{told_none, told_some, told_no_other}
use mathlib.Core.Path.{sym, ◌∙◌}
use Rattle.wire.proofs.compare.Goals as goal

pub returns-then-a-b : goal.returns-then-a-b
returns-then-a-b c = told_none _ _ c.if-a-b.true

pub returns-in-Some : goal.returns-in-Some
returns-in-Some c = told_some _ _ c.if-a-b.false (sym c.in-Some.is ∙ c.first_other.ensures.is)

pub returns-in-None : goal.returns-in-None
returns-in-None c = told_no_other _ _ c.if-a-b.false (sym c.in-None.is ∙ c.first_other.ensures.is)
