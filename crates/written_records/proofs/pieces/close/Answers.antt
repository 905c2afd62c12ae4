-- `written_records::pieces::close` meets its contract. Assumes nothing.
use Rattle.written_records.proofs.PieceWriting.{closed_out, closed_is}
use native.Mathlib.Omega.{arith}
use Rattle.written_records.proofs.pieces.close.Goals as goal

pub returns-then-room-m : goal.returns-then-room-m
returns-then-room-m c = closed_out _ _ _ _ _ _ c.difference-m.ensures (omega arith)

pub returns-then-room-m-2 : goal.returns-then-room-m-2
returns-then-room-m-2 c = closed_out _ _ _ _ _ _ c.difference-m.ensures (omega arith)

pub returns : goal.returns
returns c = closed_is _ _ _ _ _ _ _ _ _ c.difference-m.ensures c.difference.ensures c.put_zeros.ensures c.seal.ensures
