-- `page_compare::compare_pages` meets its contract. Assumes nothing.
use mathlib.Core.Path.{sym, ◌∙◌}
use Rattle.comparisons.proofs.PageLaws.{compared_first, compared_second, compared_unlike, compared_alike, none_written}
use Rattle.page_compare.proofs.compare_pages.Goals as goal

pub compare_alike-requires-clause-accepted : goal.compare_alike-requires-clause-accepted
compare_alike-requires-clause-accepted c = (sym c.check.ensures ∙ c.in-Ok.is, sym c.check-in-Ok.ensures ∙ c.in-Ok-check.is)

pub compare_alike-requires-clause-alike : goal.compare_alike-requires-clause-alike
compare_alike-requires-clause-alike c = sym c.alike.ensures ∙ c.if-alike.true

pub returns-then-alike-clause-is : goal.returns-then-alike-clause-is
returns-then-alike-clause-is c = compared_alike _ _ _ _ _ c.check.ensures c.in-Ok.is _ c.check-in-Ok.ensures c.in-Ok-check.is _ c.alike.ensures _ c.if-alike.true c.compare_alike.ensures.is

pub returns-then-alike-clause-list : goal.returns-then-alike-clause-list
returns-then-alike-clause-list c = c.compare_alike.ensures.list

pub returns-in-Err : goal.returns-in-Err
returns-in-Err c = let all_of = none_written _ _ _ (compared_first _ _ _ _ _ c.check.ensures _ c.in-Err.is) in record { is = all_of.0; list = all_of.1 }

pub returns-in-Err-check : goal.returns-in-Err-check
returns-in-Err-check c = let all_of = none_written _ _ _ (compared_second _ _ _ _ _ c.check.ensures c.in-Ok.is _ c.check-in-Ok.ensures _ c.in-Err-check.is) in record { is = all_of.0; list = all_of.1 }

pub returns-else-alike : goal.returns-else-alike
returns-else-alike c = let all_of = none_written _ _ _ (compared_unlike _ _ _ _ _ c.check.ensures c.in-Ok.is _ c.check-in-Ok.ensures c.in-Ok-check.is _ c.alike.ensures c.if-alike.false) in record { is = all_of.0; list = all_of.1 }
