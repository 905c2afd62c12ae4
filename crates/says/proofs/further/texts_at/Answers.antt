-- `says::further::texts_at` meets its contract. Assumes nothing.
use borrow.Author.Rules.{rules}
use Rattle.says.proofs.FurtherLaws.{texts_are}
use Rattle.says.proofs.further.texts_at.Goals as goal

pub returns : goal.returns
returns c = search (rules, texts_are)
