-- `fronts::counts::entry_length` meets its contract. Assumes nothing.
use mathlib.Core.Path.{refl}
use Rattle.fronts.proofs.CountLaws.{entry_counted_lem}
use Rattle.fronts.proofs.counts.entry_length.Goals as goal

pub returns : goal.returns
returns c = entry_counted_lem _ _ _ _ _ _ _ _ c.numbers_at-x.ensures c.range_count.ensures.is refl refl c.padding.ensures.is c.padding-2.ensures.is
