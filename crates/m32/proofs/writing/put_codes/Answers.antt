-- `m32::writing::put_codes` meets its contract. Assumes nothing.
use Rattle.m32.proofs.WriteLaws.{to_none, to_all, to_within, count_more, put_more}
use Prim.Native.Nat.{◌+◌}
use Rattle.wire.proofs.PutLaws.{put_nil}
use Rattle.wire.specs.Bytes.{put}
use lib.ListN.{length}
use mathlib.Core.Path.{sym, ap, ◌∙◌}
use native.Mathlib.Omega.{arith}
use Rattle.m32.proofs.writing.put_codes.Goals as goal

pub loop-x-init : goal.loop-x-init
loop-x-init c = (ap length (sym (to_none _)), sym (put_nil _ _) ∙ ap (put _ _) (sym (to_none _)))

pub overflow_add-at : goal.overflow_add-at
overflow_add-at c = omega (arith, count_more _ _ _ _ (omega arith) c.loop-x.invariant.0 c.length_of-at.ensures.is, to_within c.args.xs.now (c.loop-x.x-index + 1))

pub loop-x-preserved : goal.loop-x-preserved
loop-x-preserved c = (count_more _ _ _ _ (omega arith) c.loop-x.invariant.0 c.length_of-at.ensures.is, put_more _ _ _ _ _ _ (omega arith) c.requires c.loop-x.invariant.0 c.loop-x.invariant.1 c.put_code.ensures)

pub returns : goal.returns
returns c = c.loop-x.invariant.1 ∙ ap (put _ _) (to_all _ _ (omega arith))
