-- `calls::closing::list_cut` meets its contract. Assumes nothing.
use native.Mathlib.Omega.{arith}
use Rattle.stores.proofs.JoinLaws.{ran, told}
use Rattle.calls.proofs.InnerLaws.{list_there, list_absent, page_small}
use Rattle.calls.proofs.closing.list_cut.Goals as goal

pub overflow_cast-n : goal.overflow_cast-n
overflow_cast-n c = omega (arith, page_small _ _ c.requires.0)

pub returns-then-there : goal.returns-then-there
returns-then-there c = let all_of = told (list_there _ _ c.requires.0 c.requires.1.0 c.requires.1.1 c.if-there.true (ran (c.put_list_cut.ensures.left, c.put_list_cut.ensures.holds))) in record { left = all_of.0; holds = all_of.1 }

pub returns : goal.returns
returns c = let all_of = told (list_absent _ _ _ c.requires.1.1 c.if-there.false) in record { left = all_of.0; holds = all_of.1 }
