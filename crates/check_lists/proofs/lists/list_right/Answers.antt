-- `check_lists::lists::list_right` meets its contract. Assumes nothing.
use mathlib.Core.Path.{sym, ◌∙◌}
use Rattle.check_lists.proofs.FindLaws.{list_loose, list_other, list_none, list_is}
use borrow.Author.Rules.{rules}
use Rattle.check_lists.proofs.lists.list_right.Goals as goal

pub returns-then-list_count-records : goal.returns-then-list_count-records
returns-then-list_count-records c = search (rules, list_other)

pub returns-then-records-eq0 : goal.returns-then-records-eq0
returns-then-records-eq0 c = search (rules, list_none)

pub listed_once-requires : goal.listed_once-requires
listed_once-requires c = sym c.list_fits.ensures ∙ c.if-list_fits.true

pub returns-then-list_fits : goal.returns-then-list_fits
returns-then-list_fits c = list_is _ _ _ _ _ c.list_count.ensures c.listed_kind.ensures c.record_count-records.ensures _ _ c.list_fits.ensures c.if-list_fits.true c.if-list_count-records.false c.listed_once.ensures

pub returns : goal.returns
returns c = search (rules, list_loose)
