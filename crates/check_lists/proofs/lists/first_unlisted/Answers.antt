-- `check_lists::lists::first_unlisted` meets its contract. Assumes nothing.
use mathlib.Core.Path.{sym, ◌∙◌}
use Rattle.check_lists.proofs.FindLaws.{unlisted_fits, unlisted_loose}
use borrow.Author.Rules.{rules}
use Rattle.check_lists.proofs.lists.first_unlisted.Goals as goal

pub find_unlisted-requires : goal.find_unlisted-requires
find_unlisted-requires c = sym c.list_fits.ensures ∙ c.if-list_fits.true

pub returns-then-list_fits : goal.returns-then-list_fits
returns-then-list_fits c = search (rules, unlisted_fits)

pub returns : goal.returns
returns c = search (rules, unlisted_loose)
