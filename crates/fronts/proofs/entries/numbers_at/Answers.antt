-- `fronts::entries::numbers_at` meets its contract. Assumes nothing.
use Rattle.fronts.proofs.WriteLaws.{numbers_are}
use Rattle.fronts.proofs.entries.numbers_at.Goals as goal

pub returns : goal.returns
returns c = numbers_are _ _ _ _ _ _ _ _ _ _ c.number_in.ensures c.code_of.ensures c.number_in-2.ensures c.truth_of.ensures c.number_in-3.ensures c.number_in-4.ensures c.number_in-5.ensures c.number_in-6.ensures
