-- `deeds::pieces::tell_row` meets its contract. Assumes nothing.
use borrow.Author.Rules.{rules}
use native.Mathlib.Omega.{arith}
use mathlib.Core.Path.{refl}
use Rattle.deeds.specs.Tallies.{numbered_tally}
use Rattle.deeds.proofs.RunLaws.{run_begins, run_next, run_fits, run_ends}
use Rattle.deeds.proofs.pieces.tell_row.Goals as goal

pub loop-c-init : goal.loop-c-init
unfolding numbered_tally
loop-c-init c = run_begins _ _ _ _ _ _ _ c.no_cells-t.ensures (λ r d h. omega arith)

pub overflow_add-inside : goal.overflow_add-inside
unfolding numbered_tally
overflow_add-inside c = record { fits = omega arith }

pub overflow_cast-inside : goal.overflow_cast-inside
unfolding numbered_tally
overflow_cast-inside c = record { fits = omega arith }

pub with_cell-t-requires : goal.with_cell-t-requires
unfolding numbered_tally
with_cell-t-requires c = run_fits _ _ _ _ _ _ _ c.loop-c.invariant (omega arith) (omega arith)

pub loop-c-preserved : goal.loop-c-preserved
unfolding numbered_tally
loop-c-preserved c = run_next _ _ 0 _ _ _ _ _ _ c.loop-c.invariant c.numbered_cell-cell.ensures c.with_cell-t.ensures (omega arith) refl (search rules) (search rules)

pub returns : goal.returns
unfolding numbered_tally
returns c = run_ends _ _ _ _ _ _ _ _ _ c.loop-c.invariant c.of_run.ensures (omega arith)
