-- `store::description::describe` meets its contract. Assumes nothing.
use borrow.Author.Rules.{rules}
use mathlib.Core.Path.{◌≡◌}
use Rattle.std.specs.Prelude.{Ok, Err}
use mathlib.Core.Path.{sym, ap, ◌∙◌}
use Rattle.answer.proofs.VerdictLaws.{refusal_handed, answer_behind}
use Rattle.store.specs.Description.{described}
use Rattle.store.proofs.description.describe.Goals as goal

pub numbers_of_page-requires : goal.numbers_of_page-requires
unfolding described
numbers_of_page-requires c = sym c.check.ensures ∙ c.in_ok-check.was

pub returns-in_err-check : goal.returns-in_err-check
unfolding described
returns-in_err-check c = let e : c.from_residual.result ≡ Err c.in_err-check.field-0.0 = search rules in rw e (refusal_handed Err _ _ c.check.ensures _ _ c.in_err-check.was)

pub returns : goal.returns
unfolding described
returns c = answer_behind Err _ _ c.check.ensures _ _ c.in_ok-check.was (λ a. ap Ok c.numbers_of_page.ensures)
