-- `cells::tile_cells::section` meets its contract. Assumes nothing.
use Rattle.bodies.proofs.SectionLaws.{section_told}
use Rattle.cells.proofs.tile_cells.section.Goals as goal

pub returns-clause-is : goal.returns-clause-is
returns-clause-is c = section_told _ _ _ _ c.requires c.section_start.ensures.is

pub returns-clause-near : goal.returns-clause-near
returns-clause-near c = c.section_start.ensures.near
