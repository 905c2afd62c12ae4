-- `correct::records::free_sum` meets its contract. Assumes nothing.
use mathlib.Core.Path.{refl}
use Rattle.correct.proofs.RecordLaws.{head_apart, free_sum}
use Rattle.correct.proofs.records.free_sum.Goals as goal

pub returns : goal.returns
returns c = free_sum _ _ _ _ (head_apart _ _ _ _ refl refl c.put_head.ensures) c.checksum_for.ensures
