-- `check_lists::lists::find_in_window` meets its contract. Assumes nothing.
use Rattle.check_lists.proofs.WindowLaws.{window_first}
use borrow.Author.Rules.{rules}
use Rattle.check_lists.proofs.lists.find_in_window.Goals as goal

pub returns : goal.returns
returns c = search (rules, window_first)
