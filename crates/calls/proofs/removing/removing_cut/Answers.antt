-- `calls::removing::removing_cut` meets its contract. Assumes nothing.
use Rattle.stores.proofs.JoinLaws.{ran, told}
use Rattle.calls.proofs.InnerLaws.{removing_there, removing_absent, freeing_done, refer_done}
use Rattle.calls.proofs.removing.removing_cut.Goals as goal

pub returns-then-is_there : goal.returns-then-is_there
returns-then-is_there c = let all_of = told (removing_there _ _ c.part_of-s.ensures.holds c.is_there.ensures c.if-is_there.true (refer_done _ _ 0 c.part_of-s.ensures.holds c.layout_of-p.ensures.is (freeing_done _ _ c.part_of-s.ensures.holds c.layout_of-p.ensures.is (ran (c.join_cut-a.ensures.left, c.join_cut-a.ensures.holds))) (ran (c.refer_cut.ensures.left, c.refer_cut.ensures.holds)))) in record { left = all_of.0; holds = all_of.1 }

pub returns : goal.returns
returns c = let all_of = told (removing_absent _ _ _ _ c.part_of-s.ensures.holds c.is_there.ensures c.if-is_there.false) in record { left = all_of.0; holds = all_of.1 }
