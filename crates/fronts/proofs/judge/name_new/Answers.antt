-- `fronts::judge::name_new` meets its contract. Assumes nothing.
use mathlib.Core.Path.{refl}
use borrow.Author.Rules.{rules}
use Rattle.wire.proofs.RangeLaws.{all_range}
use Rattle.fronts.proofs.judge.name_new.Goals as goal

pub returns : goal.returns
returns c = all_range _ _ _ _ _ _ c.all.ensures.ran refl (λ x b q k. search rules)
