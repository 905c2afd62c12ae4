-- `cells::reads::read_by_directory` meets its contract. Assumes nothing.
use borrow.Author.Rules.{rules}
use mathlib.Core.Path.{◌≡◌}
use Rattle.std.specs.Prelude.{Err}
use Rattle.cells.proofs.ReadLaws.{mean_refused, mean_answer, both_directory}
use Rattle.cells.proofs.reads.read_by_directory.Goals as goal

pub returns-in_err-check : goal.returns-in_err-check
returns-in_err-check c = let e : c.from_residual.result ≡ Err c.in_err-check.field-0.0 = search rules in rw e (let all_of = both_directory _ _ _ _ _ _ (mean_refused _ _ c.check.ensures _ _ _ _ _ c.in_err-check.was) in record { route = all_of.0; meaning = all_of.1 })

pub returns : goal.returns
returns c = let all_of = both_directory _ _ _ _ _ _ (mean_answer _ _ c.check.ensures _ _ _ _ _ c.in_ok-check.was c.cell_of_accepted.ensures.accepted) in record { route = all_of.0; meaning = all_of.1 }
