-- `comparisons::differs` meets its contract. Assumes nothing.
use Rattle.comparisons.proofs.CellLaws.{kinds_differ, bits_differ}
use Rattle.comparisons.proofs.differs.Goals as goal

pub returns-then-compared_kind : goal.returns-then-compared_kind
returns-then-compared_kind c = bits_differ _ _ _ _ c.compared_kind.ensures c.compared_kind-2.ensures _ _ c.if-compared_kind.true c.cell_bits.ensures c.cell_bits-then-compared_kind.ensures

pub returns : goal.returns
returns c = kinds_differ _ _ _ _ c.compared_kind.ensures c.compared_kind-2.ensures c.if-compared_kind.false
