-- `gvrs_c::rectangle::gvrs_cells` meets its contract. Assumes nothing.
use Rattle.answer.specs.Answers.{cell_kind, cell_bits}
use Rattle.rectangles.specs.Rectangles.{written}
use Rattle.gvrs_c.proofs.RectangleLaws.{given_told}
use Rattle.gvrs_c.proofs.rectangle.gvrs_cells.Goals as goal

pub returns : goal.returns
returns c = let all_of = given_told (written cell_kind _ _ _ _ _ _ _) (written cell_bits _ _ _ _ _ _ _) _ _ _ _ _ _ _ _ _ _ c.cells_in-given.ensures.is c.cells_in-given.ensures.kinds c.cells_in-given.ensures.bits c.given_count.ensures c.report.ensures c.given_number.ensures in record { number = all_of.0; told = all_of.1.0; kinds = all_of.1.1.0; bits = all_of.1.1.1 }
