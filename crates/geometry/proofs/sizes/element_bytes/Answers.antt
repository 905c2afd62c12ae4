-- `geometry::sizes::element_bytes` meets its contract. Assumes nothing.
use Rattle.geometry.proofs.SizeLaws.{element_is}
use borrow.Author.Rules.{rules}
use Rattle.geometry.proofs.sizes.element_bytes.Goals as goal

pub returns : goal.returns
returns c = search (rules, element_is)
