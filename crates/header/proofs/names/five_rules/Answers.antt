-- `header::names::five_rules` meets its contract. Assumes nothing.
use native.Mathlib.Omega.{arith}
use mathlib.Core.Path.{sym, ◌∙◌}
use borrow.Author.Tests.{leb-true}
use Rattle.header.proofs.NameLaws.{five_empty, five_long, five_not, five_rest}
use Rattle.header.proofs.names.five_rules.Goals.{then-name-most, else-name-most}
use Rattle.header.proofs.names.five_rules.Goals as goal

pub returns-then-is_letter : goal.returns-then-is_letter
returns-then-is_letter c = elim c.if-name-most.branch [
  | then-name-most w ↦ five_rest _ _ _ _ c.in-Some.ensures.cases.0 w.if-name-most.true w.is_letter.ensures (sym w.value-is ∙ c.if-is_letter.true) c.are_name_bytes.ensures
  | else-name-most w ↦ absurd (omega (arith, leb-true _ _ (sym w.value-is ∙ c.if-is_letter.true)))
]

pub returns-else-is_letter : goal.returns-else-is_letter
returns-else-is_letter c = c.if-is_letter.false ∙ elim c.if-name-most.branch [
  | then-name-most w ↦ five_not _ _ _ _ c.in-Some.ensures.cases.0 w.is_letter.ensures (sym w.value-is ∙ c.if-is_letter.false)
  | else-name-most w ↦ five_long _ _ (omega (arith, w.if-name-most.false))
]

pub returns-in-None : goal.returns-in-None
returns-in-None c = five_empty _ _ (omega (arith, c.in-None.ensures.cases))
