-- `page_compare::count::count_piece` meets its contract. Assumes nothing.
use native.Mathlib.Omega.{arith}
use Rattle.store.proofs.PieceLaws.{rectangle_small}
use Rattle.page_compare.proofs.CountLaws.{plain_fits, added_same}
use Rattle.page_compare.proofs.count.count_piece.Goals as goal

pub plain_piece-requires-clause-both : goal.plain_piece-requires-clause-both
plain_piece-requires-clause-both c = c.requires.both

pub plain_piece-requires-clause-at : goal.plain_piece-requires-clause-at
plain_piece-requires-clause-at c = c.requires.at

pub plain_piece-requires-clause-ready : goal.plain_piece-requires-clause-ready
plain_piece-requires-clause-ready c = c.requires.ready

pub overflow_sub-result : goal.overflow_sub-result
overflow_sub-result c = omega (arith, c.requires.at.0.sides)

pub overflow_mul-result : goal.overflow_mul-result
overflow_mul-result c = record { fits = omega (arith, plain_fits _ _ c.args.p.left c.args.p.right (c.plain_piece.ensures _ c.in-Same.is).0 c.requires.both.few (omega (arith, rectangle_small _ _ c.requires.both.first, c.requires.at.0.sides))) }

pub count_rows-requires-clause-both : goal.count_rows-requires-clause-both
count_rows-requires-clause-both c = c.requires.both

pub count_rows-requires-clause-at : goal.count_rows-requires-clause-at
count_rows-requires-clause-at c = c.requires.at

pub count_rows-requires-clause-ready : goal.count_rows-requires-clause-ready
count_rows-requires-clause-ready c = c.requires.ready

pub count_rows-requires-clause-room : goal.count_rows-requires-clause-room
count_rows-requires-clause-room c = c.requires.room

pub count_rows-requires-clause-small : goal.count_rows-requires-clause-small
count_rows-requires-clause-small c = c.requires.small

pub returns-in-Same : goal.returns-in-Same
returns-in-Same c = added_same _ _ _ _ _ _ _ _ _ c.plain_piece.ensures c.in-Same.is (omega (arith, c.requires.at.0.sides))

pub returns-in-Each : goal.returns-in-Each
returns-in-Each c = c.count_rows.ensures
