-- `tile_sizes::plain_tile_length` meets its contract. Assumes nothing.
use mathlib.Core.Path.{sym, ◌∙◌}
use Rattle.tile_sizes.proofs.SizeLaws.{length_is, length_none}
use Rattle.tile_sizes.proofs.plain_tile_length.Goals as goal

pub plain_length-requires : goal.plain_length-requires
plain_length-requires c = sym c.is_small.ensures ∙ c.if-is_small.true

pub returns-then-is_small : goal.returns-then-is_small
returns-then-is_small c = length_is _ (sym c.is_small.ensures ∙ c.if-is_small.true) _ c.plain_length.ensures

pub returns-else-is_small : goal.returns-else-is_small
returns-else-is_small c = length_none _ (sym c.is_small.ensures ∙ c.if-is_small.false)
