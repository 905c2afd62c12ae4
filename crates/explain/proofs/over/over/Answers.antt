-- `explain::over::over` meets its contract. Assumes nothing.
use Rattle.std.proofs.Common.{◌≡◌, ◌∙◌, Err, rules}
use native.Mathlib.Omega.{arith}
use Rattle.record.proofs.ChainLaws.{less}
use Rattle.record.proofs.TallyLaws.{tag_other}
use Rattle.explain.proofs.OverLaws.{asked, told_begin, told_room, told_stay, told_next, told_found, told_over}
use Rattle.explain.proofs.over.over.Goals as goal

pub loop-own-init : goal.loop-own-init
loop-own-init g c = told_begin c.header_end.ensures

pub returns-in_default : goal.returns-in_default
returns-in_default g c = told_over c.loop-own.invariant c.step.ensures (tag_other _ c.in_default.not-Record)

pub ask-requires : goal.ask-requires
ask-requires g c = asked _ _ (λ k x. g.F.Fn.pre c.args.ask (k, (x, tt))) c.requires c.loop-own.invariant.few c.in-Record.is c.step.ensures

pub returns-in_err-ask : goal.returns-in_err-ask
returns-in_err-ask g c = let e : c.from_residual.result ≡ Err c.in_err-ask.field-0.0 = search rules in λ f h. e ∙ told_found c.loop-own.invariant c.in-Record.is c.step.ensures c.if-own-kind.true c.ask.ensures c.in_err-ask.was f h

pub overflow_add-k : goal.overflow_add-k
overflow_add-k g c = record { fits = omega (arith, told_room c.loop-own.invariant c.in-Record.is c.step.ensures) }

pub loop-own-smaller-in_ok-ask : goal.loop-own-smaller-in_ok-ask
loop-own-smaller-in_ok-ask g c = search (rules, less)

pub loop-own-preserved-in_ok-ask : goal.loop-own-preserved-in_ok-ask
loop-own-preserved-in_ok-ask g c = told_next c.loop-own.invariant c.in-Record.is c.step.ensures c.if-own-kind.true c.ask.ensures c.in_ok-ask.was

pub loop-own-smaller : goal.loop-own-smaller
loop-own-smaller g c = search (rules, less)

pub loop-own-preserved : goal.loop-own-preserved
loop-own-preserved g c = told_stay c.loop-own.invariant c.in-Record.is c.step.ensures c.if-own-kind.false
