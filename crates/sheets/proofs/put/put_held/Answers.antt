-- `sheets::put::put_held` meets its contract. Assumes nothing.
use mathlib.Core.Path.{sym, ◌∙◌}
use Rattle.sheets.proofs.ReadLaws.{answered_here, absent_cell}
use Rattle.sheets.proofs.TableLaws.{unread_bytes}
use native.Mathlib.Omega.{arith}
use Rattle.sheets.proofs.put.put_held.Goals as goal

pub put_absent-requires-clause-room : goal.put_absent-requires-clause-room
put_absent-requires-clause-room c = c.requires.room

pub put_absent-requires-clause-inside : goal.put_absent-requires-clause-inside
put_absent-requires-clause-inside c = (omega (arith, c.requires.at.sides), (omega (arith, c.requires.at.sides), (omega (arith, c.requires.at.sides), omega (arith, c.requires.at.sides))))

pub returns-then-is_absent : goal.returns-then-is_absent
returns-then-is_absent c = unread_bytes _ _ _ _ _ _ _ _ _ c.put_absent.ensures (λ r d i. (absent_cell _ _ _ _ _ _ c.requires.accepts.0 c.requires.accepts.1.0 c.requires.at (answered_here _ _ _ _ _ _ c.requires.accepts.1.0 c.hold_lent-held.ensures.holds c.requires.accepts.0 c.requires.at) (sym c.is_absent.ensures ∙ c.if-is_absent.true) c.requires.accepts.1.1 r d i).0)

pub put_piece-requires-clause-known : goal.put_piece-requires-clause-known
put_piece-requires-clause-known c = c.requires.known

pub put_piece-requires-clause-accepts : goal.put_piece-requires-clause-accepts
put_piece-requires-clause-accepts c = (c.requires.accepts.0, c.requires.accepts.1.0)

pub put_piece-requires-clause-room : goal.put_piece-requires-clause-room
put_piece-requires-clause-room c = c.requires.room

pub put_piece-requires-clause-at : goal.put_piece-requires-clause-at
put_piece-requires-clause-at c = c.requires.at

pub put_piece-requires-clause-answered : goal.put_piece-requires-clause-answered
put_piece-requires-clause-answered c = answered_here _ _ _ _ _ _ c.requires.accepts.1.0 c.hold_lent-held.ensures.holds c.requires.accepts.0 c.requires.at
