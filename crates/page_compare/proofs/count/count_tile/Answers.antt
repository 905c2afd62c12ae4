-- `page_compare::count::count_tile` meets its contract. Assumes nothing.
use native.Mathlib.Omega.{arith}
use mathlib.Core.Path.{sym, ◌∙◌}
use Rattle.store.proofs.PieceLaws.{piece_same}
use Rattle.comparisons.proofs.CellLaws.{first_not, second_not}
use Rattle.page_compare.proofs.SideLaws.{both_ready}
use Rattle.page_compare.proofs.CountLaws.{says_halted, says_cells}
use Rattle.page_compare.proofs.count.count_tile.Goals as goal

pub hold_page-xs-requires-clause-accepts : goal.hold_page-xs-requires-clause-accepts
hold_page-xs-requires-clause-accepts c = c.requires.both.first

pub hold_page-xs-requires-clause-at : goal.hold_page-xs-requires-clause-at
hold_page-xs-requires-clause-at c = c.requires.at

pub hold_page-xs-requires-clause-elements : goal.hold_page-xs-requires-clause-elements
hold_page-xs-requires-clause-elements c = (c.requires.both.elements.0, (c.requires.both.few, c.requires.cells))

pub hold_page-xs-requires-clause-part : goal.hold_page-xs-requires-clause-part
hold_page-xs-requires-clause-part c = (omega arith, omega arith)

pub hold_page-ys-requires-clause-accepts : goal.hold_page-ys-requires-clause-accepts
hold_page-ys-requires-clause-accepts c = c.requires.both.second

pub hold_page-ys-requires-clause-at : goal.hold_page-ys-requires-clause-at
hold_page-ys-requires-clause-at c = piece_same _ _ c.requires.both.grid _ _ c.requires.at

pub hold_page-ys-requires-clause-elements : goal.hold_page-ys-requires-clause-elements
hold_page-ys-requires-clause-elements c = (c.requires.both.elements.1, (c.requires.both.few, c.requires.cells))

pub hold_page-ys-requires-clause-part : goal.hold_page-ys-requires-clause-part
hold_page-ys-requires-clause-part c = (omega arith, omega (arith, c.hold_page-xs.ensures.changed.long))

pub halt_piece-h-requires-clause-both : goal.halt_piece-h-requires-clause-both
halt_piece-h-requires-clause-both c = c.requires.both

pub halt_piece-h-requires-clause-at : goal.halt_piece-h-requires-clause-at
halt_piece-h-requires-clause-at c = (c.requires.at, piece_same _ _ c.requires.both.grid _ _ c.requires.at)

pub halt_piece-h-requires-clause-ready : goal.halt_piece-h-requires-clause-ready
halt_piece-h-requires-clause-ready c = both_ready _ _ _ _ _ _ _ _ _ _ _ c.hold_page-xs.ensures.ready c.hold_page-ys.ensures.ready c.hold_page-ys.ensures.changed

pub count_piece-requires-clause-both : goal.count_piece-requires-clause-both
count_piece-requires-clause-both c = c.requires.both

pub count_piece-requires-clause-at : goal.count_piece-requires-clause-at
count_piece-requires-clause-at c = (c.requires.at, piece_same _ _ c.requires.both.grid _ _ c.requires.at)

pub count_piece-requires-clause-ready : goal.count_piece-requires-clause-ready
count_piece-requires-clause-ready c = both_ready _ _ _ _ _ _ _ _ _ _ _ c.hold_page-xs.ensures.ready c.hold_page-ys.ensures.ready c.hold_page-ys.ensures.changed

pub count_piece-requires-clause-room : goal.count_piece-requires-clause-room
count_piece-requires-clause-room c = c.requires.room

pub count_piece-requires-clause-small : goal.count_piece-requires-clause-small
count_piece-requires-clause-small c = c.requires.small

pub returns-in-First : goal.returns-in-First
returns-in-First c = says_halted _ _ _ c.halt_piece-h.ensures (first_not _ _ c.in-First.is)

pub returns-in-Second : goal.returns-in-Second
returns-in-Second c = says_halted _ _ _ c.halt_piece-h.ensures (second_not _ _ c.in-Second.is)

pub returns-in-None : goal.returns-in-None
returns-in-None c = says_cells _ _ _ (sym c.halt_piece-h.ensures ∙ c.in-None.is) c.count_piece.ensures
