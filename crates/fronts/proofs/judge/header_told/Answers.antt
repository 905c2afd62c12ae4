-- `fronts::judge::header_told` meets its contract. Assumes nothing.
use mathlib.Core.Path.{ap, ◌∙◌}
use native.Mathlib.Omega.{arith}
use Rattle.fronts.specs.Writing.{told}
use Rattle.fronts.proofs.JudgeLaws.{header_sides, header_flag, header_elements, header_last}
use Rattle.fronts.proofs.judge.header_told.Goals as goal

pub returns-then-number_in-gt1 : goal.returns-then-number_in-gt1
returns-then-number_in-gt1 c = header_flag c.args.page.now c.args.elements.now c.args.texts.now _ (c.are_told.ensures ∙ ap told c.of.ensures) c.if-are_told.true _ c.number_in.ensures c.if-number_in-gt1.true

pub elements_told-requires : goal.elements_told-requires
elements_told-requires c = c.requires.elements

pub label_among-requires : goal.label_among-requires
label_among-requires c = c.requires

pub returns-then-elements_told : goal.returns-then-elements_told
returns-then-elements_told c = header_last c.args.page.now c.args.elements.now c.args.texts.now _ (c.are_told.ensures ∙ ap told c.of.ensures) c.if-are_told.true _ c.number_in.ensures _ c.elements_told.ensures _ c.if-elements_told.true (omega arith) c.label_among.ensures

pub returns-else-elements_told : goal.returns-else-elements_told
returns-else-elements_told c = header_elements c.args.page.now c.args.elements.now c.args.texts.now _ (c.are_told.ensures ∙ ap told c.of.ensures) c.if-are_told.true _ c.number_in.ensures _ c.elements_told.ensures c.if-elements_told.false

pub returns-else-are_told : goal.returns-else-are_told
returns-else-are_told c = header_sides c.args.page.now c.args.elements.now c.args.texts.now _ (c.are_told.ensures ∙ ap told c.of.ensures) c.if-are_told.false
