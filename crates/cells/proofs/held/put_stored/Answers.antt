-- `cells::held::put_stored` meets its contract. Assumes nothing.
use native.Mathlib.Omega.{arith}
use mathlib.Core.Path.{refl, ◌∙◌}
use lib.ListN.{length-set}
use Rattle.cells.proofs.HeldLaws.{cells_few, stored_out, stored_begun, stored_next, stored_done}
use borrow.Author.Rules.{rules}
use Rattle.cells.proofs.held.put_stored.Goals as goal

pub returns-then-out-n : goal.returns-then-out-n
returns-then-out-n c = stored_out _ _ _ _ _ (omega (arith, c.tile_cells_of-n.ensures))

pub loop-i-init : goal.loop-i-init
loop-i-init c = (omega arith, (omega arith, (refl, stored_begun _ _ _ _ _)))

pub overflow_cast-i : goal.overflow_cast-i
overflow_cast-i c = record { fits = omega (arith, cells_few _ _ c.requires c.tile_cells_of-n.ensures) }

pub loop-i-preserved : goal.loop-i-preserved
loop-i-preserved c = (omega arith, (omega arith, (simp length-set (search rules), stored_next _ _ _ _ _ _ _ _ _ c.loop-i.invariant.1.1.1 (omega arith) (omega arith) c.cell_offset.ensures c.bits_at.ensures)))

pub returns : goal.returns
returns c = stored_done _ _ _ _ _ _ _ c.loop-i.invariant.1.1.1 (omega arith) (omega arith) ∙ rw (c.element-kind.ensures, c.tile_cells_of-n.ensures)
