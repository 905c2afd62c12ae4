-- `cells::asked::in_tiles` meets its contract. Assumes nothing.
use mathlib.Core.Path.{refl}
use Rattle.wire.proofs.TestLaws.{not_both}
use native.Mathlib.Omega.{arith}
use Rattle.cells.proofs.CellLaws.{tile_out, tile_element_out, tiles_in_lem}
use Rattle.cells.proofs.asked.in_tiles.Goals as goal

pub returns-then-tile_count-tile-clause-is : goal.returns-then-tile_count-tile-clause-is
returns-then-tile_count-tile-clause-is c = tile_out _ _ _ _ c.tile_count.ensures (omega arith)

pub returns-then-tile_count-tile-clause-small : goal.returns-then-tile_count-tile-clause-small
returns-then-tile_count-tile-clause-small c = (λ z. not_both z refl)

pub returns-then-element_count-e-clause-is : goal.returns-then-element_count-e-clause-is
returns-then-element_count-e-clause-is c = tile_element_out _ _ _ _ c.element_count.ensures (omega arith)

pub returns-then-element_count-e-clause-small : goal.returns-then-element_count-e-clause-small
returns-then-element_count-e-clause-small c = (λ z. not_both z refl)

pub returns-clause-is : goal.returns-clause-is
returns-clause-is c = tiles_in_lem _ _ _ _ _ c.tile_count.ensures c.element_count.ensures (omega arith) (omega arith)

pub returns-clause-small : goal.returns-clause-small
returns-clause-small c = (λ z. omega arith)
