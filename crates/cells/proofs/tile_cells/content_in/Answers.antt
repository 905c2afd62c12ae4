-- `cells::tile_cells::content_in` meets its contract. Assumes nothing.
use borrow.Author.Rules.{rules}
use mathlib.Core.Path.{refl}
use Rattle.cells.proofs.CellLaws.{content_packed, content_whole, bytes_small}
use Rattle.cells.proofs.tile_cells.content_in.Goals as goal

pub returns-then-is_packed : goal.returns-then-is_packed
returns-then-is_packed c = search (rules, content_packed)

pub returns : goal.returns
returns c = content_whole _ _ _ _ c.is_packed.ensures _ _ _ c.if-is_packed.false c.section-at.ensures.is (bytes_small _ _ _ c.requires.1 c.element_bytes.ensures) refl
