-- `written_records::pieces::put_section` meets its contract. Assumes nothing.
use mathlib.Core.Path.{refl}
use Rattle.written_records.proofs.PieceWriting.{section_out, section_put}
use native.Mathlib.Omega.{arith}
use Rattle.written_records.proofs.pieces.put_section.Goals as goal

pub returns-then-room-n : goal.returns-then-room-n
returns-then-room-n c = section_out _ _ _ _ _ refl c.padding-pad.ensures.is (omega arith)

pub returns-then-room-n-2 : goal.returns-then-room-n-2
returns-then-room-n-2 c = section_out _ _ _ _ _ refl c.padding-pad.ensures.is (omega arith)

pub returns-then-room-n-3 : goal.returns-then-room-n-3
returns-then-room-n-3 c = section_out _ _ _ _ _ refl c.padding-pad.ensures.is (omega arith)

pub returns : goal.returns
returns c = section_put _ _ _ _ _ _ _ _ _ refl c.padding-pad.ensures.is refl c.put_u32.ensures c.put_bytes.ensures c.put_zeros.ensures (omega arith)
