-- `sheets::weigh::weigh_tile` meets its contract. Assumes nothing.
use mathlib.Core.Path.{sym, ◌∙◌}
use Rattle.sheets.proofs.ReadLaws.{answered_here, absent_cell}
use Rattle.sheets.proofs.WeighLaws.{heavy_none}
use Rattle.sheets.proofs.weigh.weigh_tile.Goals as goal

pub returns-then-is_absent : goal.returns-then-is_absent
returns-then-is_absent c = heavy_none _ _ _ _ _ _ _ (λ r d i. (absent_cell _ _ _ _ _ _ c.requires.accepts.0 c.requires.accepts.1 c.requires.at (answered_here _ _ _ _ _ _ c.requires.accepts.1 c.hold_lent-held.ensures.holds c.requires.accepts.0 c.requires.at) (sym c.is_absent.ensures ∙ c.if-is_absent.true) c.requires.sides.1 r d i).1)

pub weigh_piece-requires-clause-known : goal.weigh_piece-requires-clause-known
weigh_piece-requires-clause-known c = c.requires.known

pub weigh_piece-requires-clause-accepts : goal.weigh_piece-requires-clause-accepts
weigh_piece-requires-clause-accepts c = c.requires.accepts

pub weigh_piece-requires-clause-sides : goal.weigh_piece-requires-clause-sides
weigh_piece-requires-clause-sides c = c.requires.sides.0

pub weigh_piece-requires-clause-at : goal.weigh_piece-requires-clause-at
weigh_piece-requires-clause-at c = c.requires.at

pub weigh_piece-requires-clause-answered : goal.weigh_piece-requires-clause-answered
weigh_piece-requires-clause-answered c = answered_here _ _ _ _ _ _ c.requires.accepts.1 c.hold_lent-held.ensures.holds c.requires.accepts.0 c.requires.at
