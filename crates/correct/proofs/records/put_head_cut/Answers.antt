-- `correct::records::put_head_cut` meets its contract. Assumes nothing.
use mathlib.Core.Path.{refl}
use Rattle.correct.proofs.RecordLaws.{head_apart}
use Rattle.stores.proofs.WriteLaws.{same_left, same_holds}
use Rattle.correct.proofs.records.put_head_cut.Goals as goal

pub returns : goal.returns
returns c = let e = head_apart _ _ _ _ refl refl c.put_head.ensures in record { left = same_left _ _ _ e c.put_cut.ensures.left; holds = same_holds _ _ _ _ e c.put_cut.ensures.holds }
