-- `cells::many::stored_from` meets its contract. Assumes nothing.
use mathlib.Core.Path.{refl}
use native.Mathlib.Omega.{arith}
use Rattle.cells.proofs.CellLaws.{offset_few}
use Rattle.cells.proofs.ManyLaws.{stored_in, stored_past}
use Rattle.cells.proofs.many.stored_from.Goals as goal

pub overflow_add-place : goal.overflow_add-place
overflow_add-place c = record { fits = omega (arith, c.cell_offset.ensures, offset_few c.args.kind c.args.inside) }

pub returns-then-at-s : goal.returns-then-at-s
returns-then-at-s c = stored_in _ _ _ _ _ _ _ _ _ c.if-at-s.true c.cell_offset.ensures refl c.bits_at.ensures c.value_of.ensures

pub returns : goal.returns
returns c = stored_past _ _ _ _ _ c.if-at-s.false
