-- `header::names::is_identifier` meets its contract. Assumes nothing.
use native.Mathlib.Omega.{arith}
use mathlib.Core.Path.{sym, ap, ◌∙◌}
use mathlib.Core.Bool.{not}
use borrow.Author.Tests.{eq-eqb}
use Rattle.header.proofs.NameLaws.{identifier_empty, identifier_last, identifier_five}
use Rattle.header.proofs.names.is_identifier.Goals as goal

pub returns-then-last-ne95 : goal.returns-then-last-ne95
returns-then-last-ne95 c = identifier_five _ _ (λ z. c.if-last-ne95.true (c.in-Some.ensures.item.4 (omega arith) 0 ∙ z)) c.five_rules.ensures

pub returns-else-last-ne95 : goal.returns-else-last-ne95
returns-else-last-ne95 c = ap not (eq-eqb _ 95 c.if-last-ne95.false) ∙ identifier_last _ _ (sym (c.in-Some.ensures.item.4 (omega arith) 0) ∙ c.if-last-ne95.false)

pub returns-in-None : goal.returns-in-None
returns-in-None c = identifier_empty _ _ (omega (arith, c.in-None.ensures.item))
