-- `written_records::pieces::put_head` meets its contract. Assumes nothing.
use Rattle.written_records.proofs.PieceWriting.{head_put}
use Rattle.wire.proofs.PutLaws.{put_out}
use Rattle.written_records.proofs.PieceLaws.{head_length_lem}
use native.Mathlib.Omega.{arith}
use Rattle.written_records.proofs.pieces.put_head.Goals as goal

pub returns-then-room-lt8 : goal.returns-then-room-lt8
returns-then-room-lt8 c = put_out _ _ _ (head_length_lem _ _) (omega arith)

pub returns-then-room-at : goal.returns-then-room-at
returns-then-room-at c = put_out _ _ _ (head_length_lem _ _) (omega arith)

pub returns : goal.returns
returns c = head_put _ _ _ _ _ _ _ c.put_u32.ensures c.put_byte.ensures c.put_zeros.ensures (omega arith)
