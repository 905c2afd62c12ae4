-- `says::further::of_page` meets its contract. Assumes nothing.
use borrow.Author.Rules.{rules}
use Rattle.says.proofs.FurtherLaws.{page_is}
use Rattle.says.proofs.further.of_page.Goals as goal

pub returns : goal.returns
returns c = search (rules, page_is)
