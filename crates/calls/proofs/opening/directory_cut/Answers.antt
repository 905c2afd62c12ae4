-- `calls::opening::directory_cut` meets its contract. Assumes nothing.
use Rattle.stores.proofs.JoinLaws.{ran, told}
use Rattle.calls.proofs.OpenLaws.{more_full, more_lacks}
use Rattle.calls.proofs.opening.directory_cut.Goals as goal

pub returns-then-g : goal.returns-then-g
returns-then-g c = let all_of = told (more_full _ _ c.args.g.full _ c.if-g.true) in record { left = all_of.0; holds = all_of.1 }

pub returns : goal.returns
returns c = let all_of = told (more_lacks c.args.g.full _ c.if-g.false (ran (c.put_directory_cut.ensures.left, c.put_directory_cut.ensures.holds))) in record { left = all_of.0; holds = all_of.1 }
