-- `wire::big::u32_at` meets its contract. Assumes nothing.
use mathlib.Core.Path.{◌∙◌}
use borrow.Author.Rules.{rules}
use Rattle.wire.proofs.StdLaws.{be_number_4}
use Rattle.wire.proofs.big.u32_at.Goals as goal

pub returns : goal.returns
returns c = c.from_be_bytes.ensures ∙ be_number_4 _ (search rules) ∙ c.bytes_at.ensures.highest_first
