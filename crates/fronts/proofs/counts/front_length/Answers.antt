-- `fronts::counts::front_length` meets its contract. Assumes nothing.
use mathlib.Core.Path.{refl}
use native.Mathlib.Omega.{arith}
use Rattle.fronts.proofs.CountLaws.{length_counted, lengths_most}
use Rattle.fronts.proofs.counts.front_length.Goals as goal

pub overflow_add-body : goal.overflow_add-body
overflow_add-body c = let l = lengths_most _ _ _ _ _ _ c.requires refl c.entries_length-entries.ensures c.methods_before-names.ensures c.number_in-label.ensures in omega (arith, l.0, l.1.0, l.1.1.0, l.1.1.1)

pub overflow_add-body-2 : goal.overflow_add-body-2
overflow_add-body-2 c = let l = lengths_most _ _ _ _ _ _ c.requires refl c.entries_length-entries.ensures c.methods_before-names.ensures c.number_in-label.ensures in omega (arith, l.0, l.1.0, l.1.1.0, l.1.1.1)

pub overflow_add-body-3 : goal.overflow_add-body-3
overflow_add-body-3 c = let l = lengths_most _ _ _ _ _ _ c.requires refl c.entries_length-entries.ensures c.methods_before-names.ensures c.number_in-label.ensures in omega (arith, l.0, l.1.0, l.1.1.0, l.1.1.1)

pub overflow_add-body-4 : goal.overflow_add-body-4
overflow_add-body-4 c = let l = lengths_most _ _ _ _ _ _ c.requires refl c.entries_length-entries.ensures c.methods_before-names.ensures c.number_in-label.ensures in omega (arith, l.0, l.1.0, l.1.1.0, l.1.1.1)

pub overflow_add-result : goal.overflow_add-result
overflow_add-result c = let l = lengths_most _ _ _ _ _ _ c.requires refl c.entries_length-entries.ensures c.methods_before-names.ensures c.number_in-label.ensures in omega (arith, l.0, l.1.0, l.1.1.0, l.1.1.1)

pub overflow_mul-result : goal.overflow_mul-result
overflow_mul-result c = let l = lengths_most _ _ _ _ _ _ c.requires refl c.entries_length-entries.ensures c.methods_before-names.ensures c.number_in-label.ensures in omega (arith, l.0, l.1.0, l.1.1.0, l.1.1.1)

pub overflow_add-result-2 : goal.overflow_add-result-2
overflow_add-result-2 c = let l = lengths_most _ _ _ _ _ _ c.requires refl c.entries_length-entries.ensures c.methods_before-names.ensures c.number_in-label.ensures in omega (arith, l.0, l.1.0, l.1.1.0, l.1.1.1)

pub returns : goal.returns
returns c = length_counted c.args.page.now c.args.elements.now _ _ _ _ _ refl c.entries_length-entries.ensures c.methods_before-names.ensures c.number_in-label.ensures refl
