-- `correct::references::refer_cut` meets its contract. Assumes nothing.
use Rattle.stores.proofs.JoinLaws.{ran, told}
use Rattle.correct.proofs.ReferenceLaws.{refer_ran}
use Rattle.correct.proofs.references.refer_cut.Goals as goal

pub returns : goal.returns
returns c = let all_of = told (refer_ran _ _ _ _ _ c.args.wide c.width-w.ensures.is (ran (c.put_reference_cut-a.ensures.left, c.put_reference_cut-a.ensures.holds)) (ran (c.seal_cut.ensures.left, c.seal_cut.ensures.holds))) in record { left = all_of.0; holds = all_of.1 }
