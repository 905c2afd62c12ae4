-- `correct::front::put_opened_cut` meets its contract. Assumes nothing.
use mathlib.Core.Path.{refl}
use Rattle.stores.proofs.JoinLaws.{ran, told}
use Rattle.stores.proofs.WriteLaws.{apart_is}
use Rattle.correct.proofs.FieldLaws.{opened_ran}
use Rattle.correct.proofs.front.put_opened_cut.Goals as goal

pub returns : goal.returns
returns c = let all_of = told (opened_ran _ _ _ (apart_is 8 _ _ refl c.put_u64.ensures) c.first_set-p.ensures.is (ran (c.put_first_cut-a.ensures.left, c.put_first_cut-a.ensures.holds)) (ran (c.put_zeros_cut.ensures.left, c.put_zeros_cut.ensures.holds))) in record { left = all_of.0; holds = all_of.1 }
