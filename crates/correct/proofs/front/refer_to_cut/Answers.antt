-- `correct::front::refer_to_cut` meets its contract. Assumes nothing.
use Rattle.stores.proofs.JoinLaws.{ran, told}
use Rattle.correct.proofs.FieldLaws.{refer_some, refer_none}
use Rattle.correct.proofs.front.refer_to_cut.Goals as goal

pub returns-then-there : goal.returns-then-there
returns-then-there c = let all_of = told (refer_some _ _ _ c.if-there.true (ran (c.put_u64_cut.ensures.left, c.put_u64_cut.ensures.holds))) in record { left = all_of.0; holds = all_of.1 }

pub returns : goal.returns
returns c = let all_of = told (refer_none _ _ _ _ _ c.if-there.false) in record { left = all_of.0; holds = all_of.1 }
