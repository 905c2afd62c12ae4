-- The sample sums come out. Assumes nothing.
use mathlib.Core.Path.{refl}
use mathlib.Core.List.{flat_map}
use Rattle.wire.specs.Tests.{passes, all_below}
use Rattle.wire.specs.Bytes.{part, byte_at}
use Rattle.wire.specs.Lists.{below}
use Rattle.wire.specs.Big.{big_from, big_at, big_of}
use Rattle.blocks.specs.Tables.{tabled}
use Rattle.blocks.specs.Folds.{fold_below, fold_rectangle, fold_inside}
use Rattle.score_sheets.specs.Sheet.{sheet_rows, sheet_columns, score_at, score_right, sheet_right, sheet_head, sheet_bytes}
use Rattle.score_sheets.specs.Parts.{score_in, part_scores}
use Rattle.answer.specs.Refusals.{gate, unless_refused}
use Rattle.sheets.specs.Back.{fault, fault_in}
use Rattle.sheet_moves.specs.Samples.{SamplesHold}

pub samples_hold : SamplesHold
unfolding flat_map passes all_below part byte_at below big_from big_at big_of tabled fold_below fold_rectangle fold_inside sheet_rows sheet_columns score_at score_right sheet_right sheet_head sheet_bytes score_in part_scores gate unless_refused fault fault_in
samples_hold = record { bytes = refl; right = refl; scores = refl; first = refl }
