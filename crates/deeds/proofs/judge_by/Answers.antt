-- `deeds::judge_by` meets its contract. Assumes nothing.
use borrow.Author.Rules.{rules}
use mathlib.Core.Path.{◌≡◌}
use Rattle.std.specs.Prelude.{Err}
use Rattle.deeds.proofs.DeedLaws.{deed_at_cell, deed_graded}
use Rattle.deeds.proofs.judge_by.Goals as goal

pub returns-in_err-t : goal.returns-in_err-t
returns-in_err-t c = let e : c.from_residual.result ≡ Err c.in_err-t.field-0.0 = search rules in rw e (deed_at_cell _ _ _ _ _ c.judge_all.ensures _ c.in_err-t.was)

pub returns : goal.returns
returns c = deed_graded _ _ _ _ _ c.judge_all.ensures _ _ c.in_ok-t.was c.grade_of.ensures
