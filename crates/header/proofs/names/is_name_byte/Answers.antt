-- `header::names::is_name_byte` meets its contract. Assumes nothing.
use Rattle.header.proofs.NameLaws.{name_byte_is}
use mathlib.Core.Path.{sym, ap, ◌∙◌}
use mathlib.Core.Bool.{Bool}
use Rattle.std.specs.Prelude.{◌||◌, ◌==◌}
use Rattle.header.proofs.names.is_name_byte.Goals as goal

pub returns-then-is_ascii_alphanumeric : goal.returns-then-is_ascii_alphanumeric
returns-then-is_ascii_alphanumeric c = c.if-is_ascii_alphanumeric.true ∙ ap (λ (b : Bool). b || (c.args.b == 95)) (sym c.if-is_ascii_alphanumeric.true ∙ c.is_ascii_alphanumeric.ensures.value) ∙ name_byte_is _

pub returns-else-is_ascii_alphanumeric : goal.returns-else-is_ascii_alphanumeric
returns-else-is_ascii_alphanumeric c = ap (λ (b : Bool). b || (c.args.b == 95)) (sym c.if-is_ascii_alphanumeric.false ∙ c.is_ascii_alphanumeric.ensures.value) ∙ name_byte_is _
