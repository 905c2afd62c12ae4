-- `sheets::weigh::weigh_row` meets its contract. Assumes nothing.
use mathlib.Core.Path.{refl}
use Rattle.sheets.proofs.WeighLaws.{behind_small, behind_holds, behind_cell, heavy_none, heavy_more, heavy_ends, cell_weighs}
use native.Mathlib.Omega.{arith}
use Rattle.sheets.proofs.weigh.weigh_row.Goals as goal

pub loop-c-init : goal.loop-c-init
loop-c-init c = (omega arith, (omega arith, heavy_none _ _ _ _ _ _ _ (λ i k h. absurd (omega arith))))

pub score_cell-cell-requires : goal.score_cell-cell-requires
score_cell-cell-requires c = (omega arith, omega (arith, c.requires.reads.small))

pub overflow_sub-behind : goal.overflow_sub-behind
overflow_sub-behind c = omega (arith, c.requires.inside)

pub overflow_mul-behind : goal.overflow_mul-behind
overflow_mul-behind c = record { fits = omega (arith, behind_small _ _ c.args.run.row c.requires.sides) }

pub overflow_sub-behind-in-loop-c : goal.overflow_sub-behind-in-loop-c
overflow_sub-behind-in-loop-c c = omega (arith, behind_holds _ c.args.a.columns _ c.loop-c.c c.requires.inside.0 (omega arith))

pub loop-c-preserved : goal.loop-c-preserved
loop-c-preserved c = (omega arith, (omega arith, heavy_more _ _ _ _ _ _ _ _ _ c.loop-c.invariant.1.1 (cell_weighs _ _ _ _ _ _ _ _ _ _ c.score_cell-cell.ensures (c.requires.reads.each c.loop-c.c (omega arith) (omega arith)) c.weight_of.ensures (behind_cell _ _ _ c.loop-c.c c.requires.inside.0 (omega arith))) c.max-w.ensures (omega arith)))

pub returns : goal.returns
returns c = heavy_ends _ _ _ _ _ _ _ _ _ _ c.loop-c.invariant.1.1 refl (omega arith)
