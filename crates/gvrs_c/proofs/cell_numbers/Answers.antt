-- `gvrs_c::cell_numbers` meets its contract. Assumes nothing.
use Rattle.gvrs_c.proofs.ReportLaws.{cell_numbers_are}
use Rattle.gvrs_c.proofs.cell_numbers.Goals as goal

pub returns : goal.returns
returns c = cell_numbers_are c.args.x _ _ _ _ _ c.cell_type.ensures c.cell_bits.ensures c.cell_place.ensures c.cell_tile.ensures c.cell_inside.ensures
