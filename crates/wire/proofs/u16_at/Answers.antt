-- `wire::u16_at` meets its contract. Assumes nothing.
use mathlib.Core.Path.{◌∙◌}
use borrow.Author.Rules.{rules}
use Rattle.wire.proofs.StdLaws.{le_number_2}
use Rattle.wire.proofs.u16_at.Goals as goal

pub returns-clause-is : goal.returns-clause-is
returns-clause-is c = c.from.ensures ∙ c.from_le_bytes.ensures ∙ le_number_2 _ (search rules) ∙ c.bytes_at.ensures.lowest_first
