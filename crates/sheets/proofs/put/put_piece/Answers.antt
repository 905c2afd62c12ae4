-- `sheets::put::put_piece` meets its contract. Assumes nothing.
use mathlib.Core.Path.{refl}
use Rattle.blocks.proofs.TableLaws.{filled_none, filled_under}
use Rattle.store.proofs.PieceLaws.{start_small}
use Rattle.sheets.proofs.ReadLaws.{row_read}
use Rattle.sheets.proofs.TableLaws.{room_still, filled_ends}
use native.Mathlib.Omega.{arith}
use Rattle.sheets.proofs.put.put_piece.Goals as goal

pub loop-r-init : goal.loop-r-init
loop-r-init c = (omega arith, (omega (arith, c.requires.at.sides), filled_none _ (λ i k h. omega arith)))

pub overflow_mul-run : goal.overflow_mul-run
overflow_mul-run c = record { fits = omega (arith, start_small _ _ _ c.loop-r.r _ c.requires.accepts.0 c.requires.at c.requires.known.0 (omega arith) (omega arith)) }

pub overflow_add-run : goal.overflow_add-run
overflow_add-run c = record { fits = omega (arith, start_small _ _ _ c.loop-r.r _ c.requires.accepts.0 c.requires.at c.requires.known.0 (omega arith) (omega arith)) }

pub put_run-requires-clause-room : goal.put_run-requires-clause-room
put_run-requires-clause-room c = room_still c.loop-r.invariant.1.1 c.requires.room

pub put_run-requires-clause-inside : goal.put_run-requires-clause-inside
put_run-requires-clause-inside c = (omega (arith, c.requires.at.sides), (omega (arith, c.requires.at.sides), omega (arith, c.requires.at.sides)))

pub put_run-requires-clause-reads : goal.put_run-requires-clause-reads
put_run-requires-clause-reads c = row_read _ _ _ _ _ _ c.requires.accepts.0 c.requires.accepts.1 c.requires.at c.requires.answered _ _ _ _ _ c.requires.known.0 refl c.requires.known.1.0 c.requires.known.1.1 (omega arith) (omega arith)

pub loop-r-preserved : goal.loop-r-preserved
loop-r-preserved c = (omega arith, (omega arith, filled_under c.loop-r.invariant.1.1 c.put_run.ensures (omega (arith, c.requires.at.sides)) (omega arith) (omega arith)))

pub returns : goal.returns
returns c = filled_ends c.loop-r.invariant.1.1 (omega arith) refl
