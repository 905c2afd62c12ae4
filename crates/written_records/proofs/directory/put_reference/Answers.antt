-- `written_records::directory::put_reference` meets its contract. Assumes nothing.
use mathlib.Core.Path.{refl}
use native.Mathlib.Omega.{arith}
use Rattle.wire.proofs.PutLaws.{put_number_out}
use Rattle.written_records.proofs.DirectoryLaws.{reference_put}
use Rattle.written_records.proofs.directory.put_reference.Goals as goal

pub returns-then-room-p : goal.returns-then-room-p
returns-then-room-p c = put_number_out 4 _ _ _ (omega arith)

pub returns-then-room-p-2 : goal.returns-then-room-p-2
returns-then-room-p-2 c = put_number_out 4 _ _ _ (omega arith)

pub returns : goal.returns
returns c = reference_put _ _ _ _ _ _ c.put_u32.ensures refl
