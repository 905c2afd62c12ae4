-- `edit_walks::freeing::end_run_cut` meets its contract. Assumes nothing.
use Rattle.stores.proofs.JoinLaws.{ran, told}
use Rattle.edit_walks.proofs.JoinLaws.{run_due, run_not}
use Rattle.edit_walks.proofs.freeing.end_run_cut.Goals as goal

pub returns-then-due : goal.returns-then-due
returns-then-due c = let all_of = told (run_due _ _ _ _ _ c.if-due.true c.difference.ensures (ran (c.put_free_cut.ensures.left, c.put_free_cut.ensures.holds))) in record { left = all_of.0; holds = all_of.1 }

pub returns : goal.returns
returns c = let all_of = told (run_not _ _ _ _ _ _ c.if-due.false) in record { left = all_of.0; holds = all_of.1 }
