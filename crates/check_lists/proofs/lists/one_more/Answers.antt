-- `check_lists::lists::one_more` meets its contract. Assumes nothing.
use native.Mathlib.Omega.{arith}
use Rattle.check_lists.proofs.WindowLaws.{more_few, more_two}
use Rattle.check_lists.proofs.lists.one_more.Goals as goal

pub returns-then-count-lt2 : goal.returns-then-count-lt2
returns-then-count-lt2 c = more_few _ (omega arith)

pub returns : goal.returns
returns c = more_two _ (omega arith)
