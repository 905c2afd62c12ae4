-- `rectangles::cells_in` meets its contract. Assumes nothing.
use borrow.Author.Rules.{rules}
use mathlib.Core.Path.{◌≡◌}
use Rattle.std.specs.Prelude.{Err}
use mathlib.Core.Path.{sym, ◌∙◌}
use Rattle.rectangles.proofs.GivenLaws.{none_written, given_refused, given_outside, given_inside}
use Rattle.rectangles.proofs.cells_in.Goals as goal

pub cells_inside-requires : goal.cells_inside-requires
cells_inside-requires c = record { accepted = sym c.check.ensures ∙ c.in_ok-check.was; inside = sym c.rectangle_inside.ensures ∙ c.if-not-rectangle_inside.false }

pub returns-clause-is : goal.returns-clause-is
returns-clause-is c = given_inside _ _ _ _ _ _ _ _ _ c.check.ensures _ c.rectangle_inside.ensures c.in_ok-check.was _ c.if-not-rectangle_inside.false c.cells_inside.ensures.is

pub returns-clause-kinds : goal.returns-clause-kinds
returns-clause-kinds c = c.cells_inside.ensures.kinds

pub returns-clause-bits : goal.returns-clause-bits
returns-clause-bits c = c.cells_inside.ensures.bits

pub returns-in_err-check : goal.returns-in_err-check
returns-in_err-check c = let e : c.from_residual.result ≡ Err c.in_err-check.field-0.0 = search rules in rw e (let all_of = none_written _ _ _ _ (given_refused _ _ _ _ _ _ _ _ _ c.check.ensures _ c.in_err-check.was) in record { is = all_of.0; kinds = all_of.1.0; bits = all_of.1.1 })

pub returns-then-not-rectangle_inside : goal.returns-then-not-rectangle_inside
returns-then-not-rectangle_inside c = let all_of = none_written _ _ _ _ (given_outside _ _ _ _ _ _ _ _ _ c.check.ensures _ c.rectangle_inside.ensures c.in_ok-check.was c.if-not-rectangle_inside.true) in record { is = all_of.0; kinds = all_of.1.0; bits = all_of.1.1 }
