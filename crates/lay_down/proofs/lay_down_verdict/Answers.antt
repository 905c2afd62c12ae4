-- `lay_down::lay_down_verdict` meets its contract. Assumes nothing.
use Rattle.lay_down.proofs.JudgeLaws.{judged_front, judged_behind}
use mathlib.Core.Path.{sym, ◌∙◌}
use Rattle.lay_down.proofs.lay_down_verdict.Goals as goal

pub input_verdict-requires : goal.input_verdict-requires
input_verdict-requires c = sym c.check_front.ensures ∙ c.in-Ok.is

pub returns-in-Err : goal.returns-in-Err
returns-in-Err c = judged_front _ _ _ _ _ _ _ c.check_front.ensures c.in-Err.is

pub returns-in-Ok : goal.returns-in-Ok
returns-in-Ok c = judged_behind _ _ _ _ _ _ _ c.check_front.ensures c.in-Ok.is c.input_verdict.ensures
