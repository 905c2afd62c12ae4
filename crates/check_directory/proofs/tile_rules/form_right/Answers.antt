-- `check_directory::tile_rules::form_right` meets its contract. Assumes nothing.
use Rattle.check_directory.proofs.TileLaws.{format_other, standard_other, form_is}
use borrow.Author.Rules.{rules}
use Rattle.check_directory.proofs.tile_rules.form_right.Goals as goal

pub returns-then-directory_format-ne0 : goal.returns-then-directory_format-ne0
returns-then-directory_format-ne0 c = search (rules, format_other)

pub returns-then-standard_references-gt1 : goal.returns-then-standard_references-gt1
returns-then-standard_references-gt1 c = search (rules, standard_other)

pub returns : goal.returns
returns c = search (rules, form_is)
