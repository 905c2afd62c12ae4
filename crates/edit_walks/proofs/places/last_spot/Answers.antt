-- `edit_walks::places::last_spot` meets its contract. Assumes nothing.
use Rattle.edit_walks.proofs.SpotLaws.{last_near, last_fits, last_end}
use Rattle.edit_walks.proofs.places.last_spot.Goals as goal

pub returns-then-is_fit-clause-is : goal.returns-then-is_fit-clause-is
returns-then-is_fit-clause-is c = last_fits _ _ _ c.difference-room.ensures c.is_fit.ensures c.if-is_fit.true

pub returns-then-is_fit-clause-near : goal.returns-then-is_fit-clause-near
returns-then-is_fit-clause-near c = last_near _ _ _ c.difference-room.ensures c.is_fit.ensures c.if-is_fit.true

pub returns-clause-is : goal.returns-clause-is
returns-clause-is c = last_end _ _ _ c.difference-room.ensures c.is_fit.ensures c.if-is_fit.false
