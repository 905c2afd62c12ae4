-- `wire::writing::put_zeros` meets its contract. Assumes nothing.
use native.Mathlib.Omega.{arith}
use mathlib.Core.Path.{◌∙◌, ap}
use Rattle.wire.specs.Bytes.{zeros}
use Rattle.wire.proofs.ByteLaws.{zeros_length}
use Rattle.wire.proofs.PutLaws.{put_out, mid_put}
use Rattle.wire.proofs.writing.put_zeros.Goals as goal

pub returns-then-out-n : goal.returns-then-out-n
returns-then-out-n c = put_out _ _ _ (zeros_length _) (omega arith)

pub returns-then-out-n-2 : goal.returns-then-out-n-2
returns-then-out-n-2 c = put_out _ _ _ (zeros_length _) (omega arith)

pub returns : goal.returns
unfolding zeros
returns c = mid_put _ _ _ (zeros c.args.n) (c.fill.ensures.after (λ y e. e) ∙ ap zeros (omega arith)) (zeros_length _) (omega arith)
