-- `page_compare::count::first_cell` meets its contract. Assumes nothing.
use native.Mathlib.Omega.{arith}
use Rattle.store.proofs.PieceLaws.{rectangle_small}
use Rattle.page_compare.proofs.CountLaws as laws
use Rattle.page_compare.proofs.count.first_cell.Goals as goal

pub overflow_add-row : goal.overflow_add-row
overflow_add-row c = record { fits = omega (arith, rectangle_small _ _ c.requires.accepts, c.requires.at.sides) }

pub overflow_add-column : goal.overflow_add-column
overflow_add-column c = record { fits = omega (arith, rectangle_small _ _ c.requires.accepts, c.requires.at.sides) }

pub returns : goal.returns
returns c = laws.first_cell _ _ _ _ _ _ _ _ c.requires.ready c.requires.at c.held_cell.ensures
