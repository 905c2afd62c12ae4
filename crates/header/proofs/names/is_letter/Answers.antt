-- `header::names::is_letter` meets its contract. Assumes nothing.
use mathlib.Core.Path.{◌∙◌}
use Rattle.header.proofs.NameLaws.{letter_is}
use Rattle.header.proofs.names.is_letter.Goals as goal

pub returns : goal.returns
returns c = c.is_ascii_alphabetic.ensures.value ∙ letter_is _
