-- `header::texts::element_texts` meets its contract. Assumes nothing.
use mathlib.Core.Path.{ap, ◌∙◌}
use Rattle.header.specs.Element.{label_at}
use Rattle.header.proofs.TextLaws.{label_not, description_not, unit_last}
use Rattle.header.proofs.texts.element_texts.Goals as goal

pub returns-then-text_right-2 : goal.returns-then-text_right-2
returns-then-text_right-2 c = unit_last _ _ _ (c.label_at-label.ensures.is ∙ ap (label_at _) c.entry_start.ensures.is) _ c.text_right.ensures _ c.string_end-description.ensures.is _ c.text_right-then-text_right.ensures _ c.string_end.ensures.is _ c.text_right-then-text_right-2.ensures c.if-text_right.true c.if-text_right-2.true

pub returns-else-text_right-2 : goal.returns-else-text_right-2
returns-else-text_right-2 c = description_not _ _ _ (c.label_at-label.ensures.is ∙ ap (label_at _) c.entry_start.ensures.is) _ c.text_right.ensures _ c.string_end-description.ensures.is _ c.text_right-then-text_right.ensures c.if-text_right-2.false

pub returns-else-text_right : goal.returns-else-text_right
returns-else-text_right c = label_not _ _ _ (c.label_at-label.ensures.is ∙ ap (label_at _) c.entry_start.ensures.is) _ c.text_right.ensures c.if-text_right.false
