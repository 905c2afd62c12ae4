-- `written_records::pieces::seal` meets its contract. Assumes nothing.
use Rattle.written_records.proofs.PieceWriting.{sealed_out, sealed_is}
use native.Mathlib.Omega.{arith}
use Rattle.written_records.proofs.pieces.seal.Goals as goal

pub returns-then-room-m : goal.returns-then-room-m
returns-then-room-m c = sealed_out _ _ _ _ _ c.difference-m.ensures (omega arith)

pub returns-then-room-m-2 : goal.returns-then-room-m-2
returns-then-room-m-2 c = sealed_out _ _ _ _ _ c.difference-m.ensures (omega arith)

pub returns : goal.returns
returns c = sealed_is _ _ _ _ _ _ _ c.difference-m.ensures c.checksum_for-sum.ensures c.put_u32.ensures
