-- `correct::front::put_closed_cut` meets its contract. Assumes nothing.
use Rattle.stores.proofs.JoinLaws.{ran, told}
use Rattle.correct.proofs.FieldLaws.{closed_ran}
use Rattle.correct.proofs.front.put_closed_cut.Goals as goal

pub returns : goal.returns
returns c = let all_of = told (closed_ran _ _ _ _ _ c.difference.ensures (ran (c.put_u64_cut-a.ensures.left, c.put_u64_cut-a.ensures.holds)) (ran (c.refer_to_cut-b.ensures.left, c.refer_to_cut-b.ensures.holds)) (ran (c.put_zeros_cut-c.ensures.left, c.put_zeros_cut-c.ensures.holds)) (ran (c.put_zeros_cut.ensures.left, c.put_zeros_cut.ensures.holds))) in record { left = all_of.0; holds = all_of.1 }
