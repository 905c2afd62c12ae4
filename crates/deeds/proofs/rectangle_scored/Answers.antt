-- `deeds::rectangle_scored` meets its contract. Assumes nothing.
use Rattle.deeds.proofs.DeedLaws.{not_scored, scored}
use native.Mathlib.Omega.{arith}
use Rattle.deeds.proofs.rectangle_scored.Goals as goal

pub returns-then-rows-eq0 : goal.returns-then-rows-eq0
returns-then-rows-eq0 c = not_scored _ _ _ _ (λ p q r. omega arith)

pub returns-then-columns-eq0 : goal.returns-then-columns-eq0
returns-then-columns-eq0 c = not_scored _ _ _ _ (λ p q r. omega arith)

pub returns : goal.returns
returns c = scored _ _ _ _ _ c.kind_of.ensures (omega arith) (omega arith)
