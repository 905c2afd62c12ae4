-- `store::reads::route_of` meets its contract. Assumes nothing.

use Rattle.store.proofs.reads.route_of.Goals as goal

pub returns-then-walk : goal.returns-then-walk
returns-then-walk c = rw c.if-walk.true c.walk_from.ensures

pub returns : goal.returns
returns c = rw c.if-walk.false c.through_directory.ensures
