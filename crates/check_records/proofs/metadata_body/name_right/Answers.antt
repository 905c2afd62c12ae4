-- `check_records::metadata_body::name_right` meets its contract. Assumes nothing.
use mathlib.Core.Path.{ap, ◌∙◌}
use Rattle.header.specs.Names.{identifier}
use Rattle.check_records.proofs.metadata_body.name_right.Goals as goal

pub returns : goal.returns
returns c = c.is_identifier.ensures ∙ ap (identifier 32) c.metadata_name.ensures.holds
