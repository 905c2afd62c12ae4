-- `fronts::entries::texts_of` meets its contract. Assumes nothing.
use native.Mathlib.Omega.{arith}
use Rattle.fronts.proofs.LineLaws.{texts_are, texts_small}
use Rattle.fronts.proofs.entries.texts_of.Goals as goal

pub overflow_add-result : goal.overflow_add-result
overflow_add-result c = omega (arith, texts_small _ _ _ c.numbers_at-x.ensures c.requires.1)

pub overflow_add-result-2 : goal.overflow_add-result-2
overflow_add-result-2 c = omega (arith, texts_small _ _ _ c.numbers_at-x.ensures c.requires.1)

pub overflow_add-result-3 : goal.overflow_add-result-3
overflow_add-result-3 c = omega (arith, texts_small _ _ _ c.numbers_at-x.ensures c.requires.1)

pub returns : goal.returns
returns c = texts_are _ _ _ c.numbers_at-x.ensures
