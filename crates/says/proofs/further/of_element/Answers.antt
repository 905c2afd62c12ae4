-- `says::further::of_element` meets its contract. Assumes nothing.
use borrow.Author.Rules.{rules}
use Rattle.says.proofs.FurtherLaws.{element_said}
use Rattle.says.proofs.further.of_element.Goals as goal

pub returns : goal.returns
returns c = search (rules, element_said)
