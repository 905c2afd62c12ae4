-- `calls::opening::body_cut` meets its contract. Assumes nothing.
use native.Mathlib.Omega.{arith}
use Rattle.stores.proofs.JoinLaws.{ran, told}
use Rattle.calls.proofs.InnerLaws.{page_small}
use Rattle.calls.proofs.OpenLaws.{body_done}
use Rattle.calls.proofs.opening.body_cut.Goals as goal

pub overflow_cast-n : goal.overflow_cast-n
overflow_cast-n c = omega (arith, page_small _ _ c.requires.0)

pub returns : goal.returns
returns c = let all_of = told (body_done _ _ c.requires.0 c.requires.1.0 c.requires.1.1 (ran (c.put_opened_cut-a.ensures.left, c.put_opened_cut-a.ensures.holds)) (ran (c.directory_cut-b.ensures.left, c.directory_cut-b.ensures.holds)) (ran (c.refer_to_cut-c.ensures.left, c.refer_to_cut-c.ensures.holds)) (ran (c.join_cut.ensures.left, c.join_cut.ensures.holds))) in record { left = all_of.0; holds = all_of.1 }
