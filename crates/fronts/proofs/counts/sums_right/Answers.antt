-- `fronts::counts::sums_right` meets its contract. Assumes nothing.
use native.Mathlib.Omega.{arith}
use Rattle.fronts.proofs.CountLaws.{sums_most, sums_texts, sums_long, sums_yes}
use Rattle.fronts.proofs.counts.sums_right.Goals as goal

pub overflow_add-from : goal.overflow_add-from
overflow_add-from c = let l = sums_most c.args.page.now c.args.elements.now c.args.texts.now _ _ _ c.texts_before-from.ensures c.methods_before-names.ensures c.number_in-label.ensures c.requires in omega (arith, l.0, l.1.0, l.1.1)

pub overflow_add-from-2 : goal.overflow_add-from-2
overflow_add-from-2 c = let l = sums_most c.args.page.now c.args.elements.now c.args.texts.now _ _ _ c.texts_before-from.ensures c.methods_before-names.ensures c.number_in-label.ensures c.requires in omega (arith, l.0, l.1.0, l.1.1)

pub returns-then-from-names : goal.returns-then-from-names
returns-then-from-names c = sums_texts c.args.page.now c.args.elements.now c.args.texts.now _ _ _ c.texts_before-from.ensures c.methods_before-names.ensures c.number_in-label.ensures (λ h. omega arith)

pub returns-then-front_length-gt-MOST_FILE_BYTES : goal.returns-then-front_length-gt-MOST_FILE_BYTES
returns-then-front_length-gt-MOST_FILE_BYTES c = sums_long c.args.page.now c.args.elements.now c.args.texts.now _ _ _ c.texts_before-from.ensures c.methods_before-names.ensures c.number_in-label.ensures (omega arith) _ c.front_length.ensures (omega arith)

pub returns : goal.returns
returns c = sums_yes c.args.page.now c.args.elements.now c.args.texts.now _ _ _ c.texts_before-from.ensures c.methods_before-names.ensures c.number_in-label.ensures (omega arith) _ c.front_length.ensures (omega arith)
