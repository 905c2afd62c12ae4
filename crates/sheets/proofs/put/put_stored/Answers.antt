-- `sheets::put::put_stored` meets its contract. Assumes nothing.
use mathlib.Core.Path.{refl, ◌∙◌}
use Rattle.blocks.proofs.TableLaws.{filled_none}
use Rattle.sheets.proofs.TableLaws.{row_start, score_room, scores_more, filled_ends}
use native.Mathlib.Omega.{arith}
use Rattle.sheets.proofs.put.put_stored.Goals as goal

pub loop-c-init : goal.loop-c-init
loop-c-init c = (omega arith, (omega arith, filled_none _ (λ i k h. omega arith)))

pub overflow_mul-c : goal.overflow_mul-c
overflow_mul-c c = record { fits = omega (arith, c.requires.stored.whole) }

pub overflow_add-from : goal.overflow_add-from
overflow_add-from c = record { fits = omega (arith, c.requires.stored.whole) }

pub short_at-v-requires : goal.short_at-v-requires
short_at-v-requires c = omega (arith, c.requires.stored.whole)

pub overflow_mul-run : goal.overflow_mul-run
overflow_mul-run c = record { fits = omega (arith, row_start _ _ c.requires.room _ c.requires.inside.0) }

pub overflow_add-run : goal.overflow_add-run
overflow_add-run c = record { fits = omega (arith, row_start _ _ c.requires.room _ c.requires.inside.0, c.requires.room.sides.columns_few) }

pub overflow_mul-run-in-loop-c : goal.overflow_mul-run-in-loop-c
overflow_mul-run-in-loop-c c = record { fits = omega (arith, row_start _ _ c.requires.room _ c.requires.inside.0, c.requires.room.sides.columns_few) }

pub put_score-requires : goal.put_score-requires
put_score-requires c = score_room _ _ c.requires.room _ c.requires.inside.0 _ _ c.loop-c.out refl c.loop-c.invariant.1.1.long (omega arith)

pub loop-c-preserved : goal.loop-c-preserved
loop-c-preserved c = (omega arith, (omega arith, scores_more _ _ _ _ _ _ _ _ _ _ _ _ _ c.loop-c.invariant.1.1 refl refl (c.short_at-v.ensures ∙ c.requires.stored.each c.loop-c.c (omega arith) (omega arith)) refl c.put_score.ensures c.requires.room c.requires.inside.0 (omega arith) (omega arith)))

pub returns : goal.returns
returns c = filled_ends c.loop-c.invariant.1.1 refl (omega arith)
