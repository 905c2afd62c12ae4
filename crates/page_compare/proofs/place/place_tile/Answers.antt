-- `page_compare::place::place_tile` meets its contract. Assumes nothing.
use native.Mathlib.Omega.{arith}
use Rattle.store.proofs.PieceLaws.{piece_same}
use Rattle.page_compare.proofs.SideLaws.{both_ready}
use Rattle.page_compare.proofs.place.place_tile.Goals as goal

pub hold_page-xs-requires-clause-accepts : goal.hold_page-xs-requires-clause-accepts
hold_page-xs-requires-clause-accepts c = c.requires.both.first

pub hold_page-xs-requires-clause-at : goal.hold_page-xs-requires-clause-at
hold_page-xs-requires-clause-at c = c.requires.at

pub hold_page-xs-requires-clause-elements : goal.hold_page-xs-requires-clause-elements
hold_page-xs-requires-clause-elements c = (c.requires.both.elements.0, (c.requires.both.few, c.requires.cells))

pub hold_page-xs-requires-clause-part : goal.hold_page-xs-requires-clause-part
hold_page-xs-requires-clause-part c = (omega arith, omega arith)

pub hold_page-ys-requires-clause-accepts : goal.hold_page-ys-requires-clause-accepts
hold_page-ys-requires-clause-accepts c = c.requires.both.second

pub hold_page-ys-requires-clause-at : goal.hold_page-ys-requires-clause-at
hold_page-ys-requires-clause-at c = piece_same _ _ c.requires.both.grid _ _ c.requires.at

pub hold_page-ys-requires-clause-elements : goal.hold_page-ys-requires-clause-elements
hold_page-ys-requires-clause-elements c = (c.requires.both.elements.1, (c.requires.both.few, c.requires.cells))

pub hold_page-ys-requires-clause-part : goal.hold_page-ys-requires-clause-part
hold_page-ys-requires-clause-part c = (omega arith, omega (arith, c.hold_page-xs.ensures.changed.long))

pub place_piece-requires-clause-both : goal.place_piece-requires-clause-both
place_piece-requires-clause-both c = c.requires.both

pub place_piece-requires-clause-at : goal.place_piece-requires-clause-at
place_piece-requires-clause-at c = (c.requires.at, piece_same _ _ c.requires.both.grid _ _ c.requires.at)

pub place_piece-requires-clause-ready : goal.place_piece-requires-clause-ready
place_piece-requires-clause-ready c = both_ready _ _ _ _ _ _ _ _ _ _ _ c.hold_page-xs.ensures.ready c.hold_page-ys.ensures.ready c.hold_page-ys.ensures.changed

pub place_piece-requires-clause-room : goal.place_piece-requires-clause-room
place_piece-requires-clause-room c = c.requires.room

pub place_piece-requires-clause-ends : goal.place_piece-requires-clause-ends
place_piece-requires-clause-ends c = c.requires.ends

pub place_piece-requires-clause-next : goal.place_piece-requires-clause-next
place_piece-requires-clause-next c = c.requires.next
