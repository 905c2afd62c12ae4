-- `lay_down::sheet::score_element` meets its contract. Assumes nothing.
use Rattle.lay_down.proofs.SheetLaws.{element_many, element_kind, element_fill}
use Rattle.lay_down.proofs.sheet.score_element.Goals as goal

pub returns-then-element_count-ne1 : goal.returns-then-element_count-ne1
returns-then-element_count-ne1 c = element_many _ _ c.element_count.ensures c.if-element_count-ne1.true

pub returns-then-x-ne-SHORT : goal.returns-then-x-ne-SHORT
returns-then-x-ne-SHORT c = element_kind _ _ c.element_count.ensures _ c.element-x.ensures c.if-x-ne-SHORT.true

pub returns : goal.returns
returns c = element_fill _ _ c.element_count.ensures _ c.element-x.ensures c.if-element_count-ne1.false c.if-x-ne-SHORT.false
