-- `written_records::pieces::checksum_for` meets its contract. Assumes nothing.
use Rattle.written_records.proofs.PieceWriting.{sum_on, sum_off}
use native.Mathlib.Omega.{arith}
use Rattle.written_records.proofs.pieces.checksum_for.Goals as goal

pub returns-then-flag-eq1 : goal.returns-then-flag-eq1
returns-then-flag-eq1 c = sum_on _ _ _ _ _ c.crc_part.ensures (omega arith)

pub returns : goal.returns
returns c = sum_off _ _ c.if-flag-eq1.false
