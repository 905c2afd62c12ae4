-- `fronts::make` meets its contract. Assumes nothing.
use mathlib.Core.Path.{sym, ◌∙◌}
use native.Mathlib.Omega.{arith}
use Rattle.fronts.proofs.JudgeLaws.{passed_of, made_refused, made_done}
use Rattle.fronts.proofs.make.Goals as goal

pub front_length-n-requires : goal.front_length-n-requires
front_length-n-requires c = (passed_of _ _ _ _ _ (sym c.front_verdict.ensures ∙ c.in-Ok.is)).counted

pub put_whole-requires : goal.put_whole-requires
put_whole-requires c = let w = passed_of _ _ _ _ _ (sym c.front_verdict.ensures ∙ c.in-Ok.is) in (w.right, (c.front_length-n.ensures ∙ sym w.long, omega (arith, w.fits, c.front_length-n.ensures)))

pub returns-in-Err : goal.returns-in-Err
returns-in-Err c = let all_of = made_refused _ _ _ _ _ _ c.front_verdict.ensures _ c.in-Err.is in record { answer = all_of.0; buffer = all_of.1 }

pub returns-in-Ok : goal.returns-in-Ok
returns-in-Ok c = let all_of = made_done _ _ _ _ _ _ c.front_verdict.ensures _ _ c.in-Ok.is c.front_length-n.ensures c.put_whole.ensures in record { answer = all_of.0; buffer = all_of.1 }
