-- `calls::judging::room_left` meets its contract. Assumes nothing.
use native.Mathlib.Omega.{arith}
use Rattle.effects.proofs.PassedLaws.{room_short, room_past, room_enough}
use Rattle.calls.proofs.judging.room_left.Goals as goal

pub returns-then-buf-m : goal.returns-then-buf-m
returns-then-buf-m c = room_short _ _ (omega arith)

pub returns-then-m-gt-MOST_FILE_BYTES : goal.returns-then-m-gt-MOST_FILE_BYTES
returns-then-m-gt-MOST_FILE_BYTES c = room_past _ _ (omega arith) (omega arith)

pub returns : goal.returns
returns c = room_enough _ _ (omega arith) (omega arith)
