-- `fronts::counts::texts_short` meets its contract. Assumes nothing.
use native.Mathlib.Omega.{arith}
use Rattle.fronts.proofs.CountLaws.{short_not, short_yes}
use Rattle.fronts.proofs.counts.texts_short.Goals as goal

pub returns-then-x-gt-LONGEST_STRING : goal.returns-then-x-gt-LONGEST_STRING
returns-then-x-gt-LONGEST_STRING c = short_not _ _ _ c.numbers_at-x.ensures (λ h. omega (arith, h.0))

pub returns-then-x-gt-LONGEST_STRING-2 : goal.returns-then-x-gt-LONGEST_STRING-2
returns-then-x-gt-LONGEST_STRING-2 c = short_not _ _ _ c.numbers_at-x.ensures (λ h. omega (arith, h.1.0))

pub returns-then-x-gt-LONGEST_STRING-3 : goal.returns-then-x-gt-LONGEST_STRING-3
returns-then-x-gt-LONGEST_STRING-3 c = short_not _ _ _ c.numbers_at-x.ensures (λ h. omega (arith, h.1.1.0))

pub returns-then-x-gt-LONGEST_STRING-4 : goal.returns-then-x-gt-LONGEST_STRING-4
returns-then-x-gt-LONGEST_STRING-4 c = short_not _ _ _ c.numbers_at-x.ensures (λ h. omega (arith, h.1.1.1))

pub returns : goal.returns
returns c = short_yes _ _ _ c.numbers_at-x.ensures (omega arith, (omega arith, (omega arith, omega arith)))
