-- `page_compare::marks::mark_of` meets its contract. Assumes nothing.
use mathlib.Core.Path.{sym, ◌∙◌}
use Rattle.wire.proofs.CountLaws.{one_yes, one_no}
use Rattle.page_compare.proofs.marks.mark_of.Goals as goal

pub returns-then-differs : goal.returns-then-differs
returns-then-differs c = (one_yes _ (sym c.differs.ensures ∙ c.if-differs.true)).0

pub returns : goal.returns
returns c = (one_no _ (sym c.differs.ensures ∙ c.if-differs.false)).0
