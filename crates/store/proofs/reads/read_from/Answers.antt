-- `store::reads::read_from` meets its contract. Assumes nothing.
use borrow.Author.Rules.{rules}
use mathlib.Core.Path.{◌≡◌}
use Rattle.std.specs.Prelude.{Err}
use Rattle.store.proofs.OpenedLaws.{all_three, page_answer}
use Rattle.cells.proofs.ReadLaws.{mean_refused, mean_answer}
use Rattle.store.proofs.reads.read_from.Goals as goal

pub returns-in_err-check : goal.returns-in_err-check
returns-in_err-check c = let e : c.from_residual.result ≡ Err c.in_err-check.field-0.0 = search rules in rw e (let all_of = all_three _ _ _ _ _ _ _ _ _ (mean_refused _ _ c.check.ensures _ _ _ _ _ c.in_err-check.was) in record { held = all_of.0; plain = all_of.1.0; meaning = all_of.1.1 })

pub returns : goal.returns
returns c = let all_of = all_three _ _ _ _ _ _ _ _ _ (mean_answer _ _ c.check.ensures _ _ _ _ _ c.in_ok-check.was (page_answer _ _ _ _ _ c.args.end c.args.directory c.args.walk _ _ c.route_of-route.ensures c.look_up.ensures)) in record { held = all_of.0; plain = all_of.1.0; meaning = all_of.1.1 }
