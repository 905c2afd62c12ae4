-- `fronts::judge::names_apart` meets its contract. Assumes nothing.
use native.Mathlib.Omega.{arith}
use Rattle.fronts.proofs.CountLaws.{summed_less}
use Rattle.fronts.proofs.JudgeLaws.{apart_not, apart_yes}
use Rattle.fronts.proofs.judge.names_apart.Goals as goal

pub texts_before-at-requires : goal.texts_before-at-requires
texts_before-at-requires c = summed_less _ _ _ c.requires.0 (omega (arith, c.requires.1))

pub texts_before-place-requires : goal.texts_before-place-requires
texts_before-place-requires c = summed_less _ _ _ c.requires.0 (omega arith)

pub returns-then-same_name : goal.returns-then-same_name
returns-then-same_name c = apart_not _ _ _ _ _ _ _ _ _ c.numbers_at-x.ensures c.numbers_at-y.ensures c.texts_before-at.ensures c.texts_before-place.ensures c.same_name.ensures c.if-same_name.true

pub returns : goal.returns
returns c = apart_yes _ _ _ _ _ _ _ _ _ c.numbers_at-x.ensures c.numbers_at-y.ensures c.texts_before-at.ensures c.texts_before-place.ensures c.same_name.ensures c.if-same_name.false
