-- `metadata_keys::rounds::Round::has` meets its contract. Assumes nothing.
use mathlib.Core.Path.{◌∙◌}
use Rattle.metadata_keys.proofs.OrderLaws.{round_type, round_low, round_high}
use Rattle.metadata_keys.proofs.rounds.Round.has.Goals as goal

pub returns-then-kind-ne-METADATA : goal.returns-then-kind-ne-METADATA
returns-then-kind-ne-METADATA c = round_type _ _ _ _ c.requires c.if-kind-ne-METADATA.true

pub returns-then-is_behind : goal.returns-then-is_behind
returns-then-is_behind c = round_high _ _ _ _ c.requires _ c.of-key.ensures _ c.is_behind.ensures _ c.if-kind-ne-METADATA.false c.if-is_behind.true c.is_up_to.ensures

pub returns-else-is_behind : goal.returns-else-is_behind
returns-else-is_behind c = c.if-is_behind.false ∙ round_low _ _ _ _ c.requires _ c.of-key.ensures _ c.is_behind.ensures c.if-is_behind.false
