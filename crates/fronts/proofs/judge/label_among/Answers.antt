-- `fronts::judge::label_among` meets its contract. Assumes nothing.
use mathlib.Core.Path.{refl}
use native.Mathlib.Omega.{arith}
use Rattle.fronts.proofs.CountLaws.{sums_most}
use Rattle.fronts.proofs.JudgeLaws.{label_place}
use Rattle.fronts.proofs.judge.label_among.Goals as goal

pub overflow_add-at : goal.overflow_add-at
overflow_add-at c = let l = sums_most c.args.page.now c.args.elements.now c.args.texts.now _ _ _ c.texts_before.ensures c.methods_before-names.ensures refl c.requires in omega (arith, l.0, l.1.0)

pub returns : goal.returns
returns c = label_place c.args.page.now c.args.elements.now c.args.texts.now _ _ _ _ _ _ _ refl c.methods_before-names.ensures c.texts_before.ensures refl c.number_in-long.ensures c.part_of.ensures.holds c.label_told.ensures
