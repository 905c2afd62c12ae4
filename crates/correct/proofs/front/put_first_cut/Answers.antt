-- `correct::front::put_first_cut` meets its contract. Assumes nothing.
use Rattle.stores.proofs.JoinLaws.{ran, told}
use Rattle.correct.proofs.FieldLaws.{set_ran}
use Rattle.correct.proofs.front.put_first_cut.Goals as goal

pub returns : goal.returns
returns c = let all_of = told (set_ran _ _ _ _ c.difference-n.ensures c.part_of.ensures.holds c.part_of-2.ensures.holds c.part_of-3.ensures.holds (ran (c.put_cut-a.ensures.left, c.put_cut-a.ensures.holds)) (ran (c.put_cut-b.ensures.left, c.put_cut-b.ensures.holds)) (ran (c.put_cut.ensures.left, c.put_cut.ensures.holds))) in record { left = all_of.0; holds = all_of.1 }
