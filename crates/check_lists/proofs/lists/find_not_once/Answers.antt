-- `check_lists::lists::find_not_once` meets its contract. Assumes nothing.
use Rattle.check_lists.proofs.lists.find_not_once.Goals as goal

pub returns : goal.returns
returns c = rw c.header_end.ensures at c.find.ensures
