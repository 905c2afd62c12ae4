-- `says::lists::behind_item` meets its contract. Assumes nothing.
use native.Mathlib.Omega.{arith}
use mathlib.Core.Path.{refl}
use Rattle.says.specs.Lists.{passed_over, left_out, took_item}
use Rattle.says.proofs.ItemLaws.{offered_passed, offered_left, offered_took}
use Rattle.says.proofs.lists.behind_item.Goals as goal

pub returns-then-skip-gt0 : goal.returns-then-skip-gt0
unfolding passed_over left_out took_item
returns-then-skip-gt0 c = offered_passed _ _ _ _ (omega arith) refl

pub returns-then-room-at : goal.returns-then-room-at
unfolding passed_over left_out took_item
returns-then-room-at c = offered_left _ _ _ _ (omega arith) (omega arith) refl

pub returns : goal.returns
unfolding passed_over left_out took_item
returns c = offered_took _ _ _ _ (omega arith) (omega arith) refl
