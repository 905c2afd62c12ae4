-- `wire::writing::put_bytes` meets its contract. Assumes nothing.
use native.Mathlib.Omega.{arith}
use mathlib.Core.Path.{refl, sym}
use Rattle.wire.proofs.PutLaws.{put_not, mid_put}
use Rattle.wire.proofs.writing.put_bytes.Goals as goal

pub returns-then-out-src : goal.returns-then-out-src
returns-then-out-src c = sym (put_not _ _ _ (omega arith))

pub returns-then-out-src-2 : goal.returns-then-out-src-2
returns-then-out-src-2 c = sym (put_not _ _ _ (omega arith))

pub returns : goal.returns
returns c = mid_put _ _ _ _ c.copy_from_slice.ensures.after refl (omega arith)
