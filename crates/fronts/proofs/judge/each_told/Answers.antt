-- `fronts::judge::each_told` meets its contract. Assumes nothing.
use mathlib.Core.Path.{refl}
use borrow.Author.Rules.{rules}
use Rattle.std.proofs.iter.Serving.{serving}
use Rattle.wire.proofs.RangeLaws.{all_range}
use Rattle.fronts.proofs.CountLaws.{summed_less}
use Rattle.fronts.proofs.judge.each_told.Goals as goal

pub all-requires-clause-callable : goal.all-requires-clause-callable
all-requires-clause-callable c = grind (serving, summed_less)

pub returns : goal.returns
returns c = all_range _ _ _ _ _ _ c.all.ensures.ran refl (λ x b q k. search rules)
