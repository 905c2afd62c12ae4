-- `correct::front::sum_without` meets its contract. Assumes nothing.
use native.Mathlib.Omega.{arith}
use Rattle.correct.proofs.FieldLaws.{without_on}
use Rattle.written_records.proofs.PieceWriting.{sum_off}
use Rattle.correct.proofs.front.sum_without.Goals as goal

pub returns-then-flag-eq1 : goal.returns-then-flag-eq1
returns-then-flag-eq1 c = without_on _ _ _ _ _ (omega arith) c.difference.ensures c.crc_without.ensures

pub returns : goal.returns
returns c = sum_off _ _ (λ z. omega arith)
