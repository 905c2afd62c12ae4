-- `fronts::judge::element_told` meets its contract. Assumes nothing.
use native.Mathlib.Omega.{arith}
use Rattle.fronts.proofs.CountLaws.{summed_less}
use Rattle.fronts.proofs.JudgeLaws.{kind_not, name_not, new_not, element_last}
use Rattle.fronts.proofs.judge.element_told.Goals as goal

pub returns-then-x-gt-SHORT : goal.returns-then-x-gt-SHORT
returns-then-x-gt-SHORT c = kind_not _ _ _ _ c.numbers_at-x.ensures (omega arith)

pub texts_before-at-requires : goal.texts_before-at-requires
texts_before-at-requires c = summed_less _ _ _ c.requires (omega arith)

pub name_new-requires : goal.name_new-requires
name_new-requires c = c.requires

pub texts_told-requires : goal.texts_told-requires
texts_told-requires c = c.requires

pub returns-then-name_new : goal.returns-then-name_new
returns-then-name_new c = element_last _ _ _ _ c.numbers_at-x.ensures _ c.texts_before-at.ensures _ c.identifier_at.ensures c.if-identifier_at.true _ c.name_new.ensures _ (omega arith) c.if-name_new.true c.texts_told.ensures

pub returns-else-name_new : goal.returns-else-name_new
returns-else-name_new c = new_not _ _ _ _ c.numbers_at-x.ensures _ c.texts_before-at.ensures _ c.identifier_at.ensures c.if-identifier_at.true _ c.name_new.ensures c.if-name_new.false

pub returns-else-identifier_at : goal.returns-else-identifier_at
returns-else-identifier_at c = name_not _ _ _ _ c.numbers_at-x.ensures _ c.texts_before-at.ensures _ c.identifier_at.ensures c.if-identifier_at.false
