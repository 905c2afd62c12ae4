-- `page_compare::count::sort_of` meets its contract. Assumes nothing.
use Rattle.page_compare.proofs.SortLaws.{sort_none, sort_all, sort_each, sort_kinds}
use Rattle.page_compare.proofs.count.sort_of.Goals as goal

pub returns-then-cell_bits : goal.returns-then-cell_bits
returns-then-cell_bits c = sort_none _ _ _ _ _ c.compared_kind.ensures c.compared_kind-2.ensures _ _ c.if-compared_kind.true c.if-absent.true c.cell_bits.ensures c.cell_bits-then-absent.ensures c.if-cell_bits.true

pub returns-then-absent : goal.returns-then-absent
returns-then-absent c = sort_all _ _ _ _ _ c.compared_kind.ensures c.compared_kind-2.ensures _ _ c.if-compared_kind.true c.if-absent.true c.cell_bits.ensures c.cell_bits-then-absent.ensures c.if-cell_bits.false

pub returns-then-compared_kind : goal.returns-then-compared_kind
returns-then-compared_kind c = sort_each _ _ _ _ _ c.compared_kind.ensures c.compared_kind-2.ensures c.if-compared_kind.true c.if-absent.false

pub returns : goal.returns
returns c = sort_kinds _ _ _ _ _ c.compared_kind.ensures c.compared_kind-2.ensures c.if-compared_kind.false
