-- `page_compare::count::plain_piece` meets its contract. Assumes nothing.
use native.Mathlib.Omega.{arith}
use Rattle.page_compare.proofs.CountLaws.{level_none, level_says, each_says, piece_level, piece_few}
use Rattle.page_compare.proofs.count.plain_piece.Goals as goal

pub loop-e-init : goal.loop-e-init
loop-e-init c = (omega arith, level_none _ _ _ _ _)

pub bounds-xs-i : goal.bounds-xs-i
bounds-xs-i c = omega (arith, c.requires.both.few)

pub bounds-ys-i : goal.bounds-ys-i
bounds-ys-i c = omega (arith, c.requires.both.few)

pub first_cell-u-requires-clause-accepts : goal.first_cell-u-requires-clause-accepts
first_cell-u-requires-clause-accepts c = c.requires.both.first

pub first_cell-u-requires-clause-at : goal.first_cell-u-requires-clause-at
first_cell-u-requires-clause-at c = c.requires.at.0

pub first_cell-u-requires-clause-ready : goal.first_cell-u-requires-clause-ready
first_cell-u-requires-clause-ready c = c.requires.ready.first c.loop-e.e c.loop-e-test.true

pub first_cell-v-requires-clause-accepts : goal.first_cell-v-requires-clause-accepts
first_cell-v-requires-clause-accepts c = c.requires.both.second

pub first_cell-v-requires-clause-at : goal.first_cell-v-requires-clause-at
first_cell-v-requires-clause-at c = c.requires.at.1

pub first_cell-v-requires-clause-ready : goal.first_cell-v-requires-clause-ready
first_cell-v-requires-clause-ready c = c.requires.ready.second c.loop-e.e c.loop-e-test.true

pub returns-then-sort-eq2 : goal.returns-then-sort-eq2
returns-then-sort-eq2 c = each_says _ _ _ _ _ _

pub overflow_add-n : goal.overflow_add-n
overflow_add-n c = record { fits = omega (arith, piece_few _ _ _ _ _ c.requires.both c.requires.at.0 c.requires.at.1 c.loop-e.e c.loop-e-test.true _ _ _ (c.requires.ready.first c.loop-e.e c.loop-e-test.true) (c.requires.ready.second c.loop-e.e c.loop-e-test.true) _ _ _ _ _ c.first_cell-u.ensures c.first_cell-v.ensures c.sort_of-sort.ensures c.both_absent.ensures c.if-sort-eq2.false c.loop-e.invariant.1) }

pub overflow_add-e : goal.overflow_add-e
overflow_add-e c = record { fits = omega (arith, c.requires.both.few) }

pub loop-e-preserved : goal.loop-e-preserved
loop-e-preserved c = (omega arith, piece_level _ _ _ _ _ c.requires.both c.requires.at.0 c.requires.at.1 c.loop-e.e c.loop-e-test.true _ _ _ (c.requires.ready.first c.loop-e.e c.loop-e-test.true) (c.requires.ready.second c.loop-e.e c.loop-e-test.true) _ _ _ _ _ c.first_cell-u.ensures c.first_cell-v.ensures c.sort_of-sort.ensures c.both_absent.ensures c.if-sort-eq2.false c.loop-e.invariant.1)

pub returns : goal.returns
returns c = let i = c.requires.at.0.sides in level_says _ _ _ _ _ _ _ _ c.loop-e.invariant.1 (omega arith) i.0 i.1.1.0
