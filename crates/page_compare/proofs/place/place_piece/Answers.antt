-- `page_compare::place::place_piece` meets its contract. Assumes nothing.
use Rattle.page_compare.proofs.PlaceLaws.{piece_passed}
use Rattle.page_compare.proofs.place.place_piece.Goals as goal

pub returns-then-n-eq0 : goal.returns-then-n-eq0
returns-then-n-eq0 c = let all_of = piece_passed _ _ _ _ _ _ _ _ _ _ c.plain_piece.ensures c.in-Same.is c.if-n-eq0.true c.requires.at.0 c.requires.next in record { next = all_of.0; list = all_of.1 }

pub place_rows-requires-clause-both : goal.place_rows-requires-clause-both
place_rows-requires-clause-both c = c.requires.both

pub place_rows-requires-clause-at : goal.place_rows-requires-clause-at
place_rows-requires-clause-at c = c.requires.at.0

pub place_rows-requires-clause-ready : goal.place_rows-requires-clause-ready
place_rows-requires-clause-ready c = c.requires.ready

pub place_rows-requires-clause-room : goal.place_rows-requires-clause-room
place_rows-requires-clause-room c = c.requires.room

pub place_rows-requires-clause-ends : goal.place_rows-requires-clause-ends
place_rows-requires-clause-ends c = c.requires.ends

pub place_rows-requires-clause-next : goal.place_rows-requires-clause-next
place_rows-requires-clause-next c = c.requires.next
