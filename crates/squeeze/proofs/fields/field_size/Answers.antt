-- `squeeze::fields::field_size` meets its contract. Assumes nothing.
use Rattle.squeeze.proofs.FieldLaws.{size_strings, size_plain}
use Rattle.squeeze.proofs.fields.field_size.Goals as goal

pub returns-then-strings : goal.returns-then-strings
returns-then-strings c = size_strings _ _ _ _ c.if-strings.true c.metadata_entry_size.ensures.is

pub returns : goal.returns
returns c = size_plain _ _ _ _ c.if-strings.false
