-- `sheets::weigh::weigh_piece` meets its contract. Assumes nothing.
use mathlib.Core.Path.{refl}
use Rattle.store.proofs.PieceLaws.{start_small}
use Rattle.sheets.proofs.ReadLaws.{row_read}
use Rattle.sheets.proofs.WeighLaws.{heavy_none, heavy_under, heavy_ends}
use native.Mathlib.Omega.{arith}
use Rattle.sheets.proofs.weigh.weigh_piece.Goals as goal

pub loop-r-init : goal.loop-r-init
loop-r-init c = (omega arith, (omega (arith, c.requires.at.sides), heavy_none _ _ _ _ _ _ _ (λ i k h. absurd (omega arith))))

pub overflow_mul-run : goal.overflow_mul-run
overflow_mul-run c = record { fits = omega (arith, start_small _ _ _ c.loop-r.r _ c.requires.accepts.0 c.requires.at c.requires.known.0 (omega arith) (omega arith)) }

pub overflow_add-run : goal.overflow_add-run
overflow_add-run c = record { fits = omega (arith, start_small _ _ _ c.loop-r.r _ c.requires.accepts.0 c.requires.at c.requires.known.0 (omega arith) (omega arith)) }

pub weigh_run-row-requires-clause-sides : goal.weigh_run-row-requires-clause-sides
weigh_run-row-requires-clause-sides c = c.requires.sides

pub weigh_run-row-requires-clause-inside : goal.weigh_run-row-requires-clause-inside
weigh_run-row-requires-clause-inside c = (omega (arith, c.requires.at.sides), (omega (arith, c.requires.at.sides), omega (arith, c.requires.at.sides)))

pub weigh_run-row-requires-clause-reads : goal.weigh_run-row-requires-clause-reads
weigh_run-row-requires-clause-reads c = row_read _ _ _ _ _ _ c.requires.accepts.0 c.requires.accepts.1 c.requires.at c.requires.answered _ _ _ _ _ c.requires.known.0 refl c.requires.known.1.0 c.requires.known.1.1 (omega arith) (omega arith)

pub loop-r-preserved : goal.loop-r-preserved
loop-r-preserved c = (omega arith, (omega arith, heavy_under _ _ _ _ _ _ _ _ _ _ c.loop-r.invariant.1.1 c.weigh_run-row.ensures c.max-w.ensures (omega arith)))

pub returns : goal.returns
returns c = heavy_ends _ _ _ _ _ _ _ _ _ _ c.loop-r.invariant.1.1 (omega arith) refl
