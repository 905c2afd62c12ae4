-- The sample sums come out. Assumes nothing.
use mathlib.Core.Path.{refl}
use Rattle.wire.specs.Bytes.{put}
use Rattle.wire.specs.Tests.{passes}
use Rattle.wire.specs.Lists.{one_if, count_below}
use Rattle.blocks.specs.Folds.{fold_below, fold_rectangle, fold_inside}
use Rattle.row_lists.specs.Entries.{entries_at, differing_in, count_in, flat, listed}
use Rattle.comparisons.specs.Comparisons.{compared_kind, differ, differ_at, join_halt, first_halt, second_halt, cell_halt, halt_at, halt_in, unless_halted, compared_in}
use Rattle.comparisons.specs.Samples.{SamplesHold}

pub samples_hold : SamplesHold
unfolding put passes one_if count_below fold_below fold_rectangle fold_inside entries_at differing_in count_in flat listed compared_kind differ differ_at join_halt first_halt second_halt cell_halt halt_at halt_in unless_halted compared_in
samples_hold = record { answers = refl; lists = refl; unlike = refl }
