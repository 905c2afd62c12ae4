-- The sample sums come out. Assumes nothing.
use mathlib.Core.Path.{refl}
use Rattle.wire.specs.Lists.{some}
use Rattle.score_rule.specs.Rules.{other_id, rule_said}
use Rattle.score_rule.specs.Samples.{SamplesHold}

pub samples_hold : SamplesHold
unfolding some other_id rule_said
samples_hold = refl
