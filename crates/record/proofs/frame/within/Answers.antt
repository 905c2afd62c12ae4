-- `record::frame::within` meets its contract. Assumes nothing.
use Rattle.record.proofs.FitLaws.{within_none, within_not, within_yes}
use Rattle.record.proofs.frame.within.Goals as goal

pub returns-then-size-eq0 : goal.returns-then-size-eq0
returns-then-size-eq0 c = within_none _ _ _ c.if-size-eq0.true

pub returns-then-room-size : goal.returns-then-room-size
returns-then-room-size c = within_not _ _ _ c.if-size-eq0.false c.if-room-size.true

pub returns : goal.returns
returns c = within_yes _ _ _ c.if-size-eq0.false c.if-room-size.false
