-- `wire::u64_at` meets its contract. Assumes nothing.
use mathlib.Core.Path.{◌∙◌}
use borrow.Author.Rules.{rules}
use Rattle.wire.proofs.StdLaws.{le_number_8}
use Rattle.wire.proofs.u64_at.Goals as goal

pub returns : goal.returns
returns c = c.from_le_bytes.ensures ∙ le_number_8 _ (search rules) ∙ c.bytes_at.ensures.lowest_first
