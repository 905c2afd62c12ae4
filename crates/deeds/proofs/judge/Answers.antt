-- `deeds::judge` meets its contract. Assumes nothing.
use borrow.Author.Rules.{rules}
use mathlib.Core.Path.{◌≡◌}
use Rattle.std.specs.Prelude.{Err}
use mathlib.Core.Path.{sym, ◌∙◌}
use Rattle.deeds.proofs.DeedLaws.{deed_refused, deed_outside, deed_inside}
use Rattle.deeds.proofs.judge.Goals as goal

pub judge_inside-requires : goal.judge_inside-requires
judge_inside-requires c = record { accepted = sym c.check.ensures ∙ c.in_ok-check.was; inside = sym c.rectangle_inside.ensures ∙ c.if-not-rectangle_inside.false }

pub returns : goal.returns
returns c = deed_inside _ _ _ _ _ _ _ _ c.check.ensures _ c.rectangle_inside.ensures c.in_ok-check.was _ c.if-not-rectangle_inside.false c.judge_inside.ensures

pub returns-in_err-check : goal.returns-in_err-check
returns-in_err-check c = let e : c.from_residual.result ≡ Err c.in_err-check.field-0.0 = search rules in rw e (deed_refused _ _ _ _ _ _ _ _ c.check.ensures _ c.in_err-check.was)

pub returns-then-not-rectangle_inside : goal.returns-then-not-rectangle_inside
returns-then-not-rectangle_inside c = deed_outside _ _ _ _ _ _ _ _ c.check.ensures _ c.rectangle_inside.ensures c.in_ok-check.was c.if-not-rectangle_inside.true
