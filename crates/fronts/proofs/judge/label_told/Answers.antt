-- `fronts::judge::label_told` meets its contract. Assumes nothing.
use native.Mathlib.Omega.{arith}
use Rattle.fronts.proofs.JudgeLaws.{label_many, label_few}
use Rattle.fronts.proofs.judge.label_told.Goals as goal

pub returns-then-n-gt-MOST_ELEMENTS : goal.returns-then-n-gt-MOST_ELEMENTS
returns-then-n-gt-MOST_ELEMENTS c = label_many _ _ (omega arith)

pub returns : goal.returns
returns c = label_few _ _ _ (omega arith) c.is_utf8.ensures
