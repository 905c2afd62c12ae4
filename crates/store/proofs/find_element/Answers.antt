-- `store::find_element` meets its contract. Assumes nothing.
use borrow.Author.Rules.{rules}
use mathlib.Core.Path.{◌≡◌}
use Rattle.std.specs.Prelude.{Err}
use Rattle.answer.proofs.VerdictLaws.{refusal_handed, answer_behind}
use Rattle.store.specs.Lookup.{read_element_named}
use Rattle.store.proofs.find_element.Goals as goal

pub returns-in_err-check : goal.returns-in_err-check
unfolding read_element_named
returns-in_err-check c = let e : c.from_residual.result ≡ Err c.in_err-check.field-0.0 = search rules in rw e (refusal_handed Err _ _ c.check.ensures _ _ c.in_err-check.was)

pub returns : goal.returns
unfolding read_element_named
returns c = answer_behind Err _ _ c.check.ensures _ _ c.in_ok-check.was (λ a. c.first_named.ensures)
