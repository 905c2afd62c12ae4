-- `geometry::sizes::packing_of` meets its contract. Assumes nothing.
use borrow.Author.Rules.{rules}
use Rattle.geometry.proofs.SizeLaws.{packing_zero, packing_whole, packing_less, packing_more}
use Rattle.geometry.proofs.sizes.packing_of.Goals as goal

pub returns-then-l-eq0 : goal.returns-then-l-eq0
returns-then-l-eq0 c = search (rules, packing_zero)

pub returns-then-n-u : goal.returns-then-n-u
returns-then-n-u c = search (rules, packing_whole)

pub returns-then-n-u-2 : goal.returns-then-n-u-2
returns-then-n-u-2 c = search (rules, packing_less)

pub returns : goal.returns
returns c = search (rules, packing_more)
