-- The sample sums come out. Assumes nothing.
use mathlib.Core.Path.{refl}
use Rattle.wire.specs.Tests.{passes}
use Rattle.answer.specs.Refusals.{unless_refused}
use Rattle.blocks.specs.Folds.{fold_below, fold_rectangle, fold_inside}
use Rattle.deeds.specs.Deeds.{is_fill, is_stored, minus_one, counts_as_fill, is_scored, score_of, fills_in, lesser, lowest_in, score_within, certain_by, first_rule, second_rule, grade_from, grade_by, graded, refusal_in, deed_by, deed_said}
use Rattle.deeds.specs.Samples.{SamplesHold}

pub samples_hold : SamplesHold
unfolding passes unless_refused fold_below fold_rectangle fold_inside is_fill is_stored minus_one counts_as_fill is_scored score_of fills_in lesser lowest_in score_within certain_by first_rule second_rule grade_from grade_by graded refusal_in deed_by deed_said
samples_hold = record { graded = refl; refused = refl; editions_graded = refl }
