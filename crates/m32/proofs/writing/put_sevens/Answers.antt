-- `m32::writing::put_sevens` meets its contract. Assumes nothing.
use Rattle.m32.proofs.WriteLaws.{back_start, back_more, back_end}
use Rattle.m32.proofs.CodeLaws.{sevens_length}
use Rattle.wire.proofs.PutLaws.{put_not}
use mathlib.Core.Path.{sym}
use native.Mathlib.Omega.{arith}
use Rattle.m32.proofs.writing.put_sevens.Goals as goal

pub returns-then-out-k : goal.returns-then-out-k
returns-then-out-k c = sym (put_not _ _ _ (omega (arith, sevens_length c.args.k c.args.v)))

pub returns-then-out-k-2 : goal.returns-then-out-k-2
returns-then-out-k-2 c = sym (put_not _ _ _ (omega (arith, sevens_length c.args.k c.args.v)))

pub loop-i-init : goal.loop-i-init
loop-i-init c = back_start _ _ _ _

pub loop-i-preserved : goal.loop-i-preserved
loop-i-preserved c = back_more _ _ _ _ _ _ _ c.loop-i.invariant (omega arith) (omega arith)

pub returns : goal.returns
returns c = back_end _ _ _ _ _ _ _ c.loop-i.invariant (omega arith)
