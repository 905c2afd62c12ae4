-- `comparisons::compared_kind` meets its contract. Assumes nothing.
use Rattle.comparisons.proofs.CellLaws.{kind_packed, kind_other}
use Rattle.comparisons.proofs.compared_kind.Goals as goal

pub returns-then-kind-eq34 : goal.returns-then-kind-eq34
returns-then-kind-eq34 c = kind_packed _ _ c.cell_kind-kind.ensures c.if-kind-eq34.true

pub returns : goal.returns
returns c = kind_other _ _ c.cell_kind-kind.ensures c.if-kind-eq34.false
