-- `fronts::judge::elements_told` meets its contract. Assumes nothing.
use native.Mathlib.Omega.{arith}
use Rattle.fronts.proofs.CountLaws.{summed_less}
use Rattle.fronts.proofs.JudgeLaws.{elements_none, elements_all}
use Rattle.fronts.proofs.judge.elements_told.Goals as goal

pub returns-then-n-lt1 : goal.returns-then-n-lt1
returns-then-n-lt1 c = elements_none _ _ _ (omega arith)

pub each_told-requires : goal.each_told-requires
each_told-requires c = summed_less _ _ _ c.requires (omega (arith, c.elements_read.ensures))

pub returns : goal.returns
returns c = elements_all _ _ _ _ _ c.requires (omega arith) c.elements_read.ensures c.each_told.ensures
