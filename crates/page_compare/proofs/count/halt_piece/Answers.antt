-- `page_compare::count::halt_piece` meets its contract. Assumes nothing.
use native.Mathlib.Omega.{arith}
use Rattle.comparisons.proofs.CellLaws.{first_not, second_not}
use Rattle.page_compare.proofs.CountLaws.{no_halt, halt_more, halt_found, halt_ends}
use Rattle.page_compare.proofs.count.halt_piece.Goals as goal

pub loop-e-init : goal.loop-e-init
loop-e-init c = (omega arith, no_halt _ _ _ _ _ _)

pub bounds-xs-i : goal.bounds-xs-i
bounds-xs-i c = omega (arith, c.requires.both.few)

pub bounds-ys-i : goal.bounds-ys-i
bounds-ys-i c = omega (arith, c.requires.both.few)

pub first_cell-u-requires-clause-accepts : goal.first_cell-u-requires-clause-accepts
first_cell-u-requires-clause-accepts c = c.requires.both.first

pub first_cell-u-requires-clause-at : goal.first_cell-u-requires-clause-at
first_cell-u-requires-clause-at c = c.requires.at.0

pub first_cell-u-requires-clause-ready : goal.first_cell-u-requires-clause-ready
first_cell-u-requires-clause-ready c = c.requires.ready.first c.loop-e.e c.loop-e-test.true

pub first_cell-v-requires-clause-accepts : goal.first_cell-v-requires-clause-accepts
first_cell-v-requires-clause-accepts c = c.requires.both.second

pub first_cell-v-requires-clause-at : goal.first_cell-v-requires-clause-at
first_cell-v-requires-clause-at c = c.requires.at.1

pub first_cell-v-requires-clause-ready : goal.first_cell-v-requires-clause-ready
first_cell-v-requires-clause-ready c = c.requires.ready.second c.loop-e.e c.loop-e-test.true

pub overflow_add-e : goal.overflow_add-e
overflow_add-e c = record { fits = omega (arith, c.requires.both.few) }

pub loop-e-preserved : goal.loop-e-preserved
loop-e-preserved c = (omega arith, halt_more _ _ _ _ _ _ _ _ _ _ c.loop-e.invariant.1 c.first_cell-u.ensures c.first_cell-v.ensures c.cell_halt-h.ensures c.in-None.is)

pub returns-in-First : goal.returns-in-First
returns-in-First c = halt_found _ _ _ _ _ _ _ _ _ _ c.loop-e.invariant.1 c.first_cell-u.ensures c.first_cell-v.ensures c.cell_halt-h.ensures c.loop-e-test.true (first_not _ _ c.in-First.is)

pub returns-in-Second : goal.returns-in-Second
returns-in-Second c = halt_found _ _ _ _ _ _ _ _ _ _ c.loop-e.invariant.1 c.first_cell-u.ensures c.first_cell-v.ensures c.cell_halt-h.ensures c.loop-e-test.true (second_not _ _ c.in-Second.is)

pub returns : goal.returns
returns c = halt_ends _ _ _ _ _ _ _ c.loop-e.invariant.1 c.loop-e-test.false
