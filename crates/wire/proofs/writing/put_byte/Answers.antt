-- `wire::writing::put_byte` meets its contract. Assumes nothing.
use native.Mathlib.Omega.{arith}
use Rattle.wire.proofs.PutLaws.{put_one, put_one_out}
use Rattle.wire.proofs.writing.put_byte.Goals as goal

pub returns-then-at-out : goal.returns-then-at-out
returns-then-at-out c = put_one _ _ _ (omega arith)

pub returns-else-at-out : goal.returns-else-at-out
returns-else-at-out c = put_one_out _ _ _ (omega arith)
