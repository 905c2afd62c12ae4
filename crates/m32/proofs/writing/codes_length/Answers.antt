-- `m32::writing::codes_length` meets its contract. Assumes nothing.
use Rattle.m32.proofs.WriteLaws.{to_none, to_all, count_more}
use lib.ListN.{length}
use mathlib.Core.Path.{sym, ap, ◌∙◌}
use native.Mathlib.Omega.{arith}
use Rattle.m32.proofs.writing.codes_length.Goals as goal

pub loop-x-init : goal.loop-x-init
loop-x-init c = (ap length (sym (to_none _)), omega arith)

pub loop-x-preserved : goal.loop-x-preserved
loop-x-preserved c = (count_more _ _ _ _ (omega arith) c.loop-x.invariant.0 c.length_of-n.ensures.is, omega arith)

pub returns : goal.returns
returns c = c.loop-x.invariant.0 ∙ ap length (to_all _ _ (omega arith))
