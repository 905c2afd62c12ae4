-- `store::reads::content_at` meets its contract. Assumes nothing.
use borrow.Author.Rules.{rules}
use mathlib.Core.Path.{◌≡◌}
use Rattle.std.specs.Prelude.{Err}
use Rattle.store.proofs.OpenedLaws.{both_contents, page_content_answer}
use Rattle.cells.proofs.ReadLaws.{content_refused, content_mean}
use Rattle.store.proofs.reads.content_at.Goals as goal

pub returns-in_err-check : goal.returns-in_err-check
returns-in_err-check c = let e : c.from_residual.result ≡ Err c.in_err-check.field-0.0 = search rules in rw e (let all_of = both_contents _ _ _ _ _ (content_refused _ _ c.check.ensures _ _ _ c.in_err-check.was) in record { held = all_of.0; plain = all_of.1 })

pub returns : goal.returns
returns c = let all_of = both_contents _ _ _ _ _ (content_mean _ _ c.check.ensures _ _ _ c.in_ok-check.was (page_content_answer _ _ _ _ _ _ c.through_directory.ensures c.look_up_content.ensures)) in record { held = all_of.0; plain = all_of.1 }
