-- `correct::records::put_rest_cut` meets its contract. Assumes nothing.
use native.Mathlib.Omega.{arith}
use Rattle.stores.proofs.JoinLaws.{ran, told}
use Rattle.correct.proofs.RecordLaws.{rest_none, rest_some}
use Rattle.correct.proofs.records.put_rest_cut.Goals as goal

pub returns-then-n-eq0 : goal.returns-then-n-eq0
returns-then-n-eq0 c = let all_of = told (rest_none _ _ _ _ _ (omega arith)) in record { left = all_of.0; holds = all_of.1 }

pub returns : goal.returns
returns c = let all_of = told (rest_some _ _ _ (λ z. omega arith) (ran (c.put_free_cut.ensures.left, c.put_free_cut.ensures.holds))) in record { left = all_of.0; holds = all_of.1 }
