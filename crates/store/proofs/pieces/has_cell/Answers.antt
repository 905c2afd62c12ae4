-- `store::pieces::has_cell` meets its contract. Assumes nothing.
use mathlib.Core.Path.{refl}
use native.Mathlib.Omega.{arith}
use Rattle.wire.proofs.TestLaws.{not_both}
use Rattle.store.proofs.ManyLaws.{there_past, there_is, there_small}
use Rattle.store.proofs.pieces.has_cell.Goals as goal

pub returns-then-precedes-clause-is : goal.returns-then-precedes-clause-is
returns-then-precedes-clause-is c = there_is _ _ _ _ _ _ _ c.grid_rows.ensures c.grid_columns.ensures c.precedes.ensures c.if-precedes.true c.precedes-then-precedes.ensures

pub returns-then-precedes-clause-small : goal.returns-then-precedes-clause-small
returns-then-precedes-clause-small c = there_small _ _ _ _ _ _ c.precedes.ensures c.if-precedes.true c.precedes-then-precedes.ensures (omega arith) (omega arith)

pub returns-clause-is : goal.returns-clause-is
returns-clause-is c = there_past _ _ _ _ _ c.grid_rows.ensures c.precedes.ensures c.if-precedes.false

pub returns-clause-small : goal.returns-clause-small
returns-clause-small c = (λ z. not_both z refl)
