-- `correct::front::put_closing_cut` meets its contract. Assumes nothing.
use Rattle.stores.proofs.JoinLaws.{ran, told}
use Rattle.correct.proofs.FieldLaws.{closing_ran}
use Rattle.correct.proofs.front.put_closing_cut.Goals as goal

pub returns : goal.returns
returns c = let all_of = told (closing_ran _ _ _ _ _ _ (ran (c.put_closed_cut-a.ensures.left, c.put_closed_cut-a.ensures.holds)) (ran (c.seal_without_cut-b.ensures.left, c.seal_without_cut-b.ensures.holds)) (ran (c.put_zeros_cut.ensures.left, c.put_zeros_cut.ensures.holds))) in record { left = all_of.0; holds = all_of.1 }
