-- `metadata_keys::rounds::find_unordered` meets its contract. Assumes nothing.
use mathlib.Core.Path.{sym, ◌∙◌}
use native.Mathlib.Omega.{arith}
use Rattle.metadata_keys.proofs.RoundLaws.{ascend_more, ascend_all}
use Rattle.metadata_keys.proofs.rounds.find_unordered.Goals as goal

pub loop-i-preserved : goal.loop-i-preserved
loop-i-preserved c = ascend_more _ _ _ c.loop-i.invariant _ _ _ _ _ (omega arith) (omega arith) c.start-x.ensures c.start-y.ensures c.of.ensures c.of-in-loop-i.ensures (sym c.before-in-loop-i.ensures ∙ c.if-not-before.false)

pub returns : goal.returns
returns c e = ascend_all _ _ _ c.loop-i.invariant (omega arith)
