-- `correct::front::seal_without_cut` meets its contract. Assumes nothing.
use Rattle.stores.proofs.JoinLaws.{ran, told}
use Rattle.correct.proofs.FieldLaws.{without_ran}
use Rattle.correct.proofs.front.seal_without_cut.Goals as goal

pub returns : goal.returns
returns c = let all_of = told (without_ran _ _ _ _ c.difference.ensures c.sum_without-sum.ensures (ran (c.put_u32_cut.ensures.left, c.put_u32_cut.ensures.holds))) in record { left = all_of.0; holds = all_of.1 }
