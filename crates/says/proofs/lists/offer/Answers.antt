-- `says::lists::offer` meets its contract. Assumes nothing.
use native.Mathlib.Omega.{arith}
use Rattle.says.proofs.ItemLaws.{to_passed, to_put}
use Rattle.says.proofs.lists.offer.Goals as goal

pub returns-then-p-gt0-clause-is : goal.returns-then-p-gt0-clause-is
returns-then-p-gt0-clause-is c = c.behind_item-q.ensures

pub returns-then-p-gt0-clause-numbers : goal.returns-then-p-gt0-clause-numbers
returns-then-p-gt0-clause-numbers c = to_passed _ _ _ (omega arith)

pub returns-clause-is : goal.returns-clause-is
returns-clause-is c = c.behind_item-q.ensures

pub returns-clause-numbers : goal.returns-clause-numbers
returns-clause-numbers c = to_put _ _ _ _ (omega arith) c.put_item.ensures
