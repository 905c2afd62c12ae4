-- `sheets::read::score_cell` meets its contract. Assumes nothing.
use mathlib.Core.Path.{◌∙◌}
use Rattle.sheets.proofs.ReadLaws.{told_alone, told_numbered}
use Rattle.sheets.proofs.read.score_cell.Goals as goal

pub returns-then-held_kind-eq0 : goal.returns-then-held_kind-eq0
returns-then-held_kind-eq0 c = c.held_cell.ensures ∙ told_alone c.args.held _ _ _ c.held_kind.ensures c.if-held_kind-eq0.true

pub returns : goal.returns
returns c = c.numbered_cell.ensures ∙ told_numbered c.args.held _ _ _ c.held_kind.ensures c.if-held_kind-eq0.false
