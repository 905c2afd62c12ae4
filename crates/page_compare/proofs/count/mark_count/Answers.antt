-- `page_compare::count::mark_count` meets its contract. Assumes nothing.
use mathlib.Core.Path.{sym, ◌∙◌}
use Rattle.wire.proofs.CountLaws.{one_yes, one_no}
use Rattle.page_compare.proofs.count.mark_count.Goals as goal

pub returns-then-is_mark : goal.returns-then-is_mark
returns-then-is_mark c = (one_yes _ (sym c.is_mark.ensures ∙ c.if-is_mark.true)).0

pub returns : goal.returns
returns c = (one_no _ (sym c.is_mark.ensures ∙ c.if-is_mark.false)).0
