-- `fronts::front_verdict` meets its contract. Assumes nothing.
use mathlib.Core.Path.{sym, ◌∙◌}
use native.Mathlib.Omega.{arith}
use Rattle.fronts.proofs.CountLaws.{right_of_lem}
use Rattle.fronts.proofs.JudgeLaws.{sides_of, verdict_input, verdict_header, verdict_ceiling, verdict_room, verdict_done}
use Rattle.fronts.proofs.front_verdict.Goals as goal

pub header_told-requires : goal.header_told-requires
header_told-requires c = (right_of_lem _ _ _ _ (sym c.is_describable.ensures ∙ c.if-is_describable.true)).counted

pub ceilings_told-requires : goal.ceilings_told-requires
ceilings_told-requires c = sides_of _ _ _ _ c.header_told.ensures c.if-header_told.true

pub front_length-requires : goal.front_length-requires
front_length-requires c = (right_of_lem _ _ _ _ (sym c.is_describable.ensures ∙ c.if-is_describable.true)).counted

pub returns-then-room-front_length : goal.returns-then-room-front_length
returns-then-room-front_length c = verdict_room _ _ _ _ _ _ c.is_describable.ensures c.if-is_describable.true _ c.header_told.ensures c.if-header_told.true _ c.ceilings_told.ensures c.if-ceilings_told.true _ c.front_length.ensures (omega arith)

pub returns-then-ceilings_told : goal.returns-then-ceilings_told
returns-then-ceilings_told c = verdict_done _ _ _ _ _ _ c.is_describable.ensures c.if-is_describable.true _ c.header_told.ensures c.if-header_told.true _ c.ceilings_told.ensures c.if-ceilings_told.true _ c.front_length.ensures (omega arith)

pub returns-then-header_told : goal.returns-then-header_told
returns-then-header_told c = verdict_ceiling _ _ _ _ _ _ c.is_describable.ensures c.if-is_describable.true _ c.header_told.ensures c.if-header_told.true _ c.ceilings_told.ensures c.if-ceilings_told.false

pub returns-then-is_describable : goal.returns-then-is_describable
returns-then-is_describable c = verdict_header _ _ _ _ _ _ c.is_describable.ensures c.if-is_describable.true _ c.header_told.ensures c.if-header_told.false

pub returns : goal.returns
returns c = verdict_input _ _ _ _ _ _ c.is_describable.ensures c.if-is_describable.false
