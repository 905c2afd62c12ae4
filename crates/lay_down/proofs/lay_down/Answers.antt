-- `lay_down::lay_down` meets its contract. Assumes nothing.
use Rattle.lay_down.proofs.JudgeLaws.{passed_of, length_is}
use Rattle.lay_down.proofs.PageWriting.{laid_refused, laid_done}
use mathlib.Core.Path.{sym, ◌∙◌}
use Rattle.lay_down.proofs.lay_down.Goals as goal

pub put_page-requires : goal.put_page-requires
put_page-requires c = sym c.lay_down_verdict.ensures ∙ c.in-Ok.is

pub file_length-requires : goal.file_length-requires
file_length-requires c = let w = passed_of _ _ _ _ _ (sym c.lay_down_verdict.ensures ∙ c.in-Ok.is) in (w.front, w.few)

pub returns-in-Err : goal.returns-in-Err
returns-in-Err c = let all_of = laid_refused _ _ _ _ _ _ c.lay_down_verdict.ensures _ c.in-Err.is in record { answer = all_of.0; buffer = all_of.1 }

pub returns-in-Ok : goal.returns-in-Ok
returns-in-Ok c = let all_of = laid_done _ _ _ _ _ _ c.lay_down_verdict.ensures _ _ c.in-Ok.is (length_is _ _ _ c.file_length.ensures) c.put_page.ensures in record { answer = all_of.0; buffer = all_of.1 }
