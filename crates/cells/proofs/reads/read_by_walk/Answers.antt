-- `cells::reads::read_by_walk` meets its contract. Assumes nothing.
use borrow.Author.Rules.{rules}
use mathlib.Core.Path.{◌≡◌}
use Rattle.std.specs.Prelude.{Err}
use Rattle.cells.proofs.ReadLaws.{check_lawful, walk_answer, mean_refused, mean_answer, both_walk}
use Rattle.cells.proofs.reads.read_by_walk.Goals as goal

pub returns-in_err-check : goal.returns-in_err-check
returns-in_err-check c = let e : c.from_residual.result ≡ Err c.in_err-check.field-0.0 = search rules in rw e (let all_of = both_walk _ _ _ _ _ _ (mean_refused _ _ c.check.ensures _ _ _ _ _ c.in_err-check.was) in record { route = all_of.0; meaning = all_of.1 })

pub returns : goal.returns
returns c = let all_of = both_walk _ _ _ _ _ _ (mean_answer _ _ c.check.ensures _ _ _ _ _ c.in_ok-check.was (λ a. walk_answer _ _ _ _ _ _ _ c.look_up.ensures c.header_end.ensures (check_lawful _ a))) in record { route = all_of.0; meaning = all_of.1 }
