-- `check_lists::lists::window_right` meets its contract. Assumes nothing.
use Rattle.check_lists.proofs.RightLaws.{window_not, window_yes}
use Rattle.check_lists.proofs.lists.window_right.Goals as goal

pub returns-in-Some : goal.returns-in-Some
returns-in-Some c = window_not _ _ _ _ c.find_in_window.ensures _ c.in-Some.is

pub returns : goal.returns
returns c = window_yes _ _ _ _ c.find_in_window.ensures c.in_default.is
