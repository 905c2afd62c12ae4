-- `lay_down::input_verdict` meets its contract. Assumes nothing.
use Rattle.lay_down.proofs.FrontLaws.{front_of_lem}
use Rattle.lay_down.proofs.AscendLaws.{ascending_few}
use Rattle.lay_down.proofs.JudgeLaws.{input_means, judged_input, judged_length}
use mathlib.Core.Path.{sym, ◌∙◌}
use native.Mathlib.Omega.{arith}
use Rattle.lay_down.proofs.input_verdict.Goals as goal

pub length_verdict-requires : goal.length_verdict-requires
length_verdict-requires c = (c.requires, omega (arith, ascending_few _ _ (input_means _ _ _ _ (sym c.input_right.ensures ∙ c.if-input_right.true)).1.0, (front_of_lem _ c.requires).tiles))

pub returns-then-input_right : goal.returns-then-input_right
returns-then-input_right c = judged_length _ _ _ _ _ _ c.input_right.ensures _ c.if-input_right.true c.length_verdict.ensures

pub returns : goal.returns
returns c = judged_input _ _ _ _ _ _ c.input_right.ensures c.if-input_right.false
