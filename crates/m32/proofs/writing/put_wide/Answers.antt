-- `m32::writing::put_wide` meets its contract. Assumes nothing.
use Rattle.m32.proofs.WriteLaws.{put_pieces}
use Rattle.m32.proofs.BackLaws.{base_reached}
use Rattle.m32.proofs.CodeLaws.{wide_length}
use Rattle.wire.proofs.PutLaws.{put_not}
use mathlib.Core.Path.{sym}
use native.Mathlib.Omega.{arith}
use Rattle.m32.proofs.writing.put_wide.Goals as goal

pub overflow_sub-v : goal.overflow_sub-v
overflow_sub-v c = base_reached _ _ _ c.continued-digits.ensures.is c.base.ensures (omega arith) (omega arith)

pub returns-then-out-k : goal.returns-then-out-k
returns-then-out-k c = sym (put_not _ _ _ (omega (arith, wide_length c.args.m)))

pub returns-then-out-k-2 : goal.returns-then-out-k-2
returns-then-out-k-2 c = sym (put_not _ _ _ (omega (arith, wide_length c.args.m)))

pub returns : goal.returns
returns c = put_pieces _ _ _ _ _ _ _ _ _ c.continued-digits.ensures.is c.base.ensures c.put_byte.ensures c.put_sevens.ensures c.put_byte-2.ensures (omega arith)
