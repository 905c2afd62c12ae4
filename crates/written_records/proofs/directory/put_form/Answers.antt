-- `written_records::directory::put_form` meets its contract. Assumes nothing.
use Rattle.wire.proofs.PutLaws.{put_out}
use Rattle.written_records.proofs.DirectoryLaws.{form_length, form_put}
use native.Mathlib.Omega.{arith}
use Rattle.written_records.proofs.directory.put_form.Goals as goal

pub returns-then-room-lt24 : goal.returns-then-room-lt24
returns-then-room-lt24 c = put_out _ _ _ (form_length _ _) (omega arith)

pub returns-then-room-at : goal.returns-then-room-at
returns-then-room-at c = put_out _ _ _ (form_length _ _) (omega arith)

pub returns : goal.returns
returns c = form_put _ _ _ _ _ _ _ c.put_zeros.ensures c.put_u32.ensures c.put_u32-2.ensures (omega arith)
