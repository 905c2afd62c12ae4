-- `m32::code_at` meets its contract. Assumes nothing.
use Rattle.m32.proofs.ReadLaws.{code_none, code_begun, code_number, code_bad, code_ended, code_more}
use Rattle.m32.specs.M32.{first_step}
use mathlib.Core.Path.{refl, sym, ap, ◌∙◌}
use Rattle.std.proofs.lemmas.Bool.{ltb-true}
use native.Mathlib.Omega.{arith}
use Rattle.m32.proofs.code_at.Goals as goal

pub returns-in_err-get : goal.returns-in_err-get
returns-in_err-get c = c.from_residual.ensures ∙ code_none _ _ c.in_err-get.ensures.lookup.3

pub returns-in-Number : goal.returns-in-Number
returns-in-Number c = code_number _ _ _ _ (code_begun _ _ _ (ltb-true _ _ (sym c.in_ok-get.ensures.lookup.0)) (c.in-Number.ensures ∙ ap first_step (c.in_ok-get.ensures.lookup.4 (omega arith) 0))) _ refl

pub returns-in-Bad : goal.returns-in-Bad
returns-in-Bad c = code_bad _ _ _ _ (code_begun _ _ _ (ltb-true _ _ (sym c.in_ok-get.ensures.lookup.0)) (c.in-Bad.ensures ∙ ap first_step (c.in_ok-get.ensures.lookup.4 (omega arith) 0))) refl

pub loop-at-init : goal.loop-at-init
loop-at-init c = code_begun _ _ _ (ltb-true _ _ (sym c.in_ok-get.ensures.lookup.0)) (c.in-More.ensures ∙ ap first_step (c.in_ok-get.ensures.lookup.4 (omega arith) 0))

pub returns-in-Number-further : goal.returns-in-Number-further
returns-in-Number-further c = code_number _ _ _ _ (code_more _ _ _ _ c.loop-at.invariant _ _ refl (omega arith) c.in-Number-further.ensures) _ refl

pub returns-in-Bad-further : goal.returns-in-Bad-further
returns-in-Bad-further c = code_bad _ _ _ _ (code_more _ _ _ _ c.loop-at.invariant _ _ refl (omega arith) c.in-Bad-further.ensures) refl

pub loop-at-preserved : goal.loop-at-preserved
loop-at-preserved c = code_more _ _ _ _ c.loop-at.invariant _ _ refl (omega arith) c.in-More-further.ensures

pub returns : goal.returns
returns c = code_ended _ _ _ _ c.loop-at.invariant _ refl (omega arith)
