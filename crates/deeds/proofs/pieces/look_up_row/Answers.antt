-- `deeds::pieces::look_up_row` meets its contract. Assumes nothing.
use borrow.Author.Rules.{rules}
use native.Mathlib.Omega.{arith}
use mathlib.Core.Path.{refl}
use Rattle.store.proofs.PieceLaws.{rectangle_small}
use Rattle.deeds.proofs.RunLaws.{run_begins, run_next, run_fits, run_ends}
use Rattle.deeds.proofs.PieceLaws.{answered_cell}
use Rattle.deeds.proofs.pieces.look_up_row.Goals as goal

pub overflow_add-row : goal.overflow_add-row
overflow_add-row c = record { fits = omega (arith, rectangle_small _ _ c.requires.ready.accepts, c.requires.ready.at.sides, c.requires.row) }

pub loop-c-init : goal.loop-c-init
loop-c-init c = run_begins _ _ _ _ _ _ _ c.no_cells-t.ensures (λ r d h. omega arith)

pub overflow_add-a : goal.overflow_add-a
overflow_add-a c = record { fits = omega (arith, rectangle_small _ _ c.requires.ready.accepts, c.requires.ready.at.sides) }

pub with_cell-t-requires : goal.with_cell-t-requires
with_cell-t-requires c = let m = rectangle_small _ _ c.requires.ready.accepts in let i = c.requires.ready.at.sides in run_fits _ _ _ _ _ _ _ c.loop-c.invariant (omega (arith, c.requires.row)) (omega arith)

pub loop-c-preserved : goal.loop-c-preserved
loop-c-preserved c = let i = c.requires.ready.at.sides in run_next _ _ _ _ _ _ _ _ _ c.loop-c.invariant (answered_cell _ _ _ _ _ _ _ _ _ c.held_cell-cell.ensures c.requires.ready.answered (omega (arith, c.requires.row))) c.with_cell-t.ensures (omega arith) refl (search (rules, c.well_formed.1.0)) (search (rules, c.well_formed.1.0))

pub returns : goal.returns
returns c = run_ends _ _ _ _ _ _ _ _ _ c.loop-c.invariant c.of_run.ensures (omega arith)
