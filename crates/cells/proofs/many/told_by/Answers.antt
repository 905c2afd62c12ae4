-- `cells::many::told_by` meets its contract. Assumes nothing.
use mathlib.Core.Path.{ap}
use native.Mathlib.Omega.{arith}
use Rattle.cells.proofs.CellLaws.{inside_small}
use Rattle.cells.proofs.ManyLaws.{told_alone, told_numbered}
use Rattle.header.specs.declared.Element.{Element}
use Rattle.cells.proofs.many.told_by.Goals as goal

pub returns-then-held_kind-eq0 : goal.returns-then-held_kind-eq0
returns-then-held_kind-eq0 c = told_alone _ _ _ _ _ _ _ _ _ c.held_kind.ensures c.if-held_kind-eq0.true c.cell_of_accepted.ensures.looked

pub overflow_cast-inside : goal.overflow_cast-inside
overflow_cast-inside c = record { fits = omega (arith, c.cell_inside-inside.ensures, inside_small _ c.args.row c.args.column c.requires) }

pub returns : goal.returns
returns c = let y = c.element-x.ensures in
    told_numbered _ _ _ _ _ _ _ _ _ c.held_kind.ensures _ _ _ _ c.if-held_kind-eq0.false (ap (λ (x : Element). x.kind) y) (ap (λ (x : Element). x.fill) y) c.cell_tile-tile.ensures c.cell_inside-inside.ensures c.numbered_cell.ensures
